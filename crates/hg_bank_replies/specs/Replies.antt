-- What a host is answered of a bank.
use Rattle.std.specs.Prelude.{ℕ, Option, Some, None, Result, Ok, Err}
use Rattle.hg_place.specs.HandleWords.{handle_word}
use Rattle.hg_machine.specs.declared.Answer.{Answer}
use Rattle.hg_machine.specs.declared.Answer.TheVariants as answer
use Rattle.hg_machine.specs.declared.Event.{Event}
use Rattle.hg_machine.specs.declared.Event.TheVariants as event
use Rattle.hg_core.specs.declared.refusals.NoSegment.{NoSegment}
use Rattle.hg_heap.specs.declared.refused.Refused.{Refused}
use Rattle.hg_heap.specs.Answers.{refused_answer}
use Rattle.hg_bank.specs.declared.bank.BankHandle.{BankHandle}
use Rattle.hg_bank.specs.declared.bank.BankSegment.{BankSegment}
use Rattle.hg_bank.specs.Requests.{Request, alloc, refill, named, server}
use Rattle.hg_bank.specs.State.{BankState}
use Rattle.hg_reply.specs.declared.reply.Reply.{Reply}
use Rattle.hg_reply.specs.Replies.{reply_of}

-- what an event is of a bank: an Alloc and a Refill name no core
abbrev pub request_of : ℕ → Event → Request
request_of core (event.Alloc actor arena bytes) = alloc actor arena bytes
request_of core (event.Refill arena) = refill arena
request_of core other = named core other

-- a status with a value, and the number of the core that it is of
abbrev pub placed : ℕ → ℕ → ℕ → Reply
placed status core value = record { status = status; owner = 0; detail = core; value = value }

-- a block and a segment come with the number of the core that gave them
abbrev pub placed_reply : Option ℕ → Answer → Reply
placed_reply (Some core) (answer.Block handle) = placed 1 core (handle_word handle)
placed_reply (Some core) (answer.Refilled segment) = placed 7 core segment
placed_reply server other = reply_of other

-- the reply that stands for the answer to a request
abbrev pub reply_to : BankState → ℕ → Request → Answer → Reply
reply_to old worker (named core event) told = reply_of told
reply_to old worker request told = placed_reply (server old worker request) told

-- the same by what the calls tell
abbrev pub alloc_reply : Result BankHandle Refused → Reply
alloc_reply (Ok block) = placed 1 block.core (handle_word block.handle)
alloc_reply (Err refused) = reply_of (refused_answer refused)

abbrev pub refill_reply : Result BankSegment NoSegment → Reply
refill_reply (Ok segment) = placed 7 segment.core segment.segment
refill_reply (Err none) = reply_of answer.NoSegment
