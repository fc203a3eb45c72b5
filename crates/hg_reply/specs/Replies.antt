-- What a host is answered.
use Rattle.std.specs.Prelude.{ℕ}
use Rattle.hg_machine.specs.declared.Answer.{Answer}
use Rattle.hg_machine.specs.declared.Answer.TheVariants as answer
use Rattle.hg_machine.specs.declared.Rule.{Rule}
use Rattle.hg_machine.specs.declared.Rule.TheVariants as rule
use Rattle.hg_place.specs.HandleWords.{handle_word}
use Rattle.hg_reply.specs.declared.reply.Reply.{Reply}

-- a status alone, and one with a value
abbrev pub plain : ℕ → Reply
plain status = record { status = status; owner = 0; detail = 0; value = 0 }

abbrev pub valued : ℕ → ℕ → Reply
valued status value = record { status = status; owner = 0; detail = 0; value = value }

-- What isn't asked of the machine: the core is closed; the policy has no such worker; the number is
-- no handle's, or no place's; the core is open already; nothing has the name, or the number
abbrev pub closed : Reply
closed = plain 64

abbrev pub no_worker : Reply
no_worker = plain 65

abbrev pub no_block : Reply
no_block = plain 66

abbrev pub held : Reply
held = plain 67

abbrev pub no_name : Reply
no_name = plain 68

-- memory was refused; of a bank: all cores are open that there may be, and there is no bank of so many
abbrev pub no_memory : Reply
no_memory = plain 57

abbrev pub full : Reply
full = plain 24

abbrev pub no_count : Reply
no_count = plain 69

-- of a service: another call has what this one needs
abbrev pub again : Reply
again = plain 25

-- each rule has a status of its own
abbrev pub denial : Rule → Reply
denial rule.Stranger = plain 32
denial (rule.Stale generation) =
    record { status = 33; owner = 0; detail = generation; value = 0 }
denial rule.AlreadyFreed = plain 34
denial rule.ForeignArena = plain 35
denial rule.NotGranted = plain 36
denial rule.OverLimit = plain 37
denial rule.Forbidden = plain 38

-- each answer of the machine has a status of its own, and comes whole
abbrev pub reply_of : Answer → Reply
reply_of (answer.Block handle) = valued 1 (handle_word handle)
reply_of answer.Done = plain 2
reply_of answer.Parted = plain 3
reply_of (answer.Value word) = valued 4 word
reply_of (answer.Taken places) = valued 5 places
reply_of (answer.Pages pages) = valued 6 pages
reply_of (answer.Refilled segment) = valued 7 segment
reply_of (answer.Listed row) =
    record { status = 8; owner = row.owner; detail = row.bytes; value = handle_word row.handle }
reply_of (answer.Denied rule) = denial rule
reply_of answer.TooLarge = plain 16
reply_of answer.NoRoom = plain 17
reply_of answer.Elsewhere = plain 18
reply_of answer.OutOfBlock = plain 19
reply_of answer.Busy = plain 20
reply_of answer.NothingInHand = plain 21
reply_of answer.NotHeld = plain 22
reply_of answer.NoSegment = plain 23
