-- What a call of a host does to a bank.
use Rattle.std.specs.Prelude.{◌≡◌, ◌≢◌, ℕ, true, false, List, Option, Some}
use Rattle.hg_machine.specs.declared.Event.{Event}
use Rattle.hg_place.specs.declared.Handle.{Handle}
use Rattle.hg_place.specs.declared.Place.{Place}
use Rattle.hg_place.specs.Places.{number_of}
use Rattle.hg_place.specs.HandleWords.{handle_word, is_handle, is_place, ReadsWord}
use Rattle.hg_policy.specs.Names.{tenant_name}
use Rattle.hg_bank.specs.State.{BankState}
use Rattle.hg_bank_replies.specs.declared.asking.BankQuestion.{BankQuestion}
use Rattle.hg_bank_replies.specs.declared.block.BankBlock.{BankBlock}
use Rattle.hg_bank_replies.specs.Asking.{answer_to, shut_to}
use Rattle.hg_bank_replies.specs.Blocks.{core_of}
use Rattle.hg_bank_replies.specs.Serving as bank
use Rattle.hg_reply.specs.declared.reply.Reply.{Reply}
use Rattle.hg_reply.specs.Naming.{IsNamed, named, nobody}
use Rattle.hg_reply.specs.Replies.{closed, no_block, plain, valued}
use Rattle.hg_ffi.specs.declared.host_bank.HostBank.{HostBank}
use Rattle.hg_ffi.specs.declared.lent_bank.LentBank.{LentBank}
use Rattle.hg_ffi.specs.Owning.{bank_mark}

-- it is open or closed as it was, with the same bank
abbrev pub IsSame : HostBank → HostBank → Type 0
IsSame old new = (new.mark ≡ old.mark) × (new.bank ≡ old.bank)

-- an open bank serves the event, in the core of this number where it names one, and stays open; a
-- closed one is answered so, and nothing changes
pub record Serves (old : HostBank) (worker core : ℕ) (event : Event) (reply : Reply)
    (new : HostBank) : Type 0 where
  pub shut : old.mark ≢ bank_mark → (reply ≡ closed) × IsSame old new
  pub serves :
      old.mark ≡ bank_mark
      → bank.Serves old.bank worker core event reply new.bank × (new.mark ≡ bank_mark)

-- the same for the block that a word names, read as the one handle that it is, or as none
pub record ServesOn (old : HostBank) (worker : ℕ) (block : BankBlock) (event : Handle → Event)
    (reply : Reply) (new : HostBank) : Type 0 where
  pub named :
      is_handle block.handle ≡ true
      → (handle : Handle) × (block.handle ≡ handle_word handle)
      × ReadsWord block.handle (Some handle)
      × Serves old worker (core_of block.core) (event handle) reply new
  pub unnamed : is_handle block.handle ≡ false → (reply ≡ no_block) × IsSame old new

-- the same for a place of a core that is named by a number, which may be no place's
pub record ServesAt (old : HostBank) (worker core number : ℕ) (event : Place → Event)
    (reply : Reply) (new : HostBank) : Type 0 where
  pub named :
      is_place number ≡ true
      → (place : Place) × (number ≡ number_of place)
      × Serves old worker (core_of core) (event place) reply new
  pub unnamed : is_place number ≡ false → (reply ≡ no_block) × IsSame old new

-- an open bank grows, or says why it doesn't, and stays open; a closed one is answered so, and
-- nothing changes
pub record Grows (old : HostBank) (reply : Reply) (new : HostBank) : Type 0 where
  pub shut : old.mark ≢ bank_mark → (reply ≡ closed) × IsSame old new
  pub grows :
      old.mark ≡ bank_mark → bank.Grows old.bank reply new.bank × (new.mark ≡ bank_mark)

-- an open bank is closed; a closed one is answered so, and nothing changes
pub record Closes (old : HostBank) (reply : Reply) (new : HostBank) : Type 0 where
  pub shut : old.mark ≢ bank_mark → (reply ≡ closed) × IsSame old new
  pub closes : old.mark ≡ bank_mark → (reply ≡ plain 2) × (new.mark ≢ bank_mark)

-- an open bank is answered by its state, and a closed one as closed
pub record Tells (host : LentBank) (question : BankQuestion) (reply : Reply) : Type 0 where
  pub shut : host.mark ≢ bank_mark → reply ≡ shut_to question
  pub told : host.mark ≡ bank_mark → reply ≡ answer_to question host.bank

-- Where a look-up finds no number, since the bank is closed or nothing has the name, the value is
-- nobody's
pub record Finds (host : LentBank) (number : BankState → Option ℕ) (reply : Reply) : Type 0 where
  pub shut : host.mark ≢ bank_mark → reply ≡ valued 64 nobody
  pub found : host.mark ≡ bank_mark → reply ≡ named (number host.bank)

-- the name of a tenant is asked for
pub record TellsName (host : LentBank) (tenant : ℕ) (room : List ℕ) (reply : Reply)
    (told : List ℕ) : Type 0 where
  pub shut : host.mark ≢ bank_mark → (reply ≡ closed) × (told ≡ room)
  pub named :
      host.mark ≡ bank_mark → IsNamed (tenant_name host.bank.policy tenant) room reply told
