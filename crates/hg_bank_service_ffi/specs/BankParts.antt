-- What a call of a host does to a part of a bank of services.
use Rattle.std.specs.Prelude.{◌≡◌, ◌≢◌, ℕ, List, Option, Some, true, false}
use Rattle.hg_machine.specs.declared.Event.{Event}
use Rattle.hg_machine.specs.Policy.{Policy}
use Rattle.hg_place.specs.declared.Actor.{Actor}
use Rattle.hg_place.specs.declared.Handle.{Handle}
use Rattle.hg_place.specs.declared.Place.{Place}
use Rattle.hg_place.specs.Places.{number_of}
use Rattle.hg_place.specs.HandleWords.{handle_word, is_handle, is_place, ReadsWord}
use Rattle.hg_reply.specs.declared.reply.Reply.{Reply}
use Rattle.hg_reply.specs.Naming.{nobody}
use Rattle.hg_reply.specs.Replies.{closed, no_block, valued}
use Rattle.hg_bank_replies.specs.declared.block.BankBlock.{BankBlock}
use Rattle.hg_bank_replies.specs.Blocks.{core_of}
use Rattle.hg_bank_service_replies.specs.Asking.{PartFinds, PartTells}
use Rattle.hg_bank_service_replies.specs.Dropping.{DropsService, DropsWorker}
use Rattle.hg_bank_service_replies.specs.Leaving.{PartLeaves}
use Rattle.hg_bank_service_replies.specs.Listing.{PartLists}
use Rattle.hg_bank_service_replies.specs.Serving.{PartServes}
use Rattle.hg_bank_service_replies.specs.declared.asking.BankPartQuestion.{BankPartQuestion}
use Rattle.hg_bank_service_replies.specs.declared.part.BankPart.{BankPart}
use Rattle.hg_bank_service_replies.specs.declared.part.BankPart.TheVariants as part
use Rattle.hg_bank_service_ffi.specs.declared.host_bank_part.HostBankPart.{HostBankPart}
use Rattle.hg_bank_service_ffi.specs.Owning.{bank_part_mark}

-- it is open or closed as it was, with the same part
abbrev pub IsSame : HostBankPart → HostBankPart → Type 0
IsSame old new = (new.mark ≡ old.mark) × (new.part ≡ old.part)

-- it is open with this part
abbrev pub IsOpen : HostBankPart → BankPart → Type 0
IsOpen host part = (host.mark ≡ bank_part_mark) × (host.part ≡ Some part)

-- it is open with what there is, and closed where that is a worker that has left or nothing any more
abbrev pub Keeps : BankPart → HostBankPart → Type 0
Keeps (part.Worker worker) host = IsOpen host (part.Worker worker)
Keeps (part.Leaving left) host = IsOpen host (part.Leaving left)
Keeps (part.Service opened) host = IsOpen host (part.Service opened)
Keeps (part.Bank bank) host = IsOpen host (part.Bank bank)
Keeps (part.Left gone) host = host.mark ≢ bank_part_mark
Keeps part.Gone host = host.mark ≢ bank_part_mark

-- what an open one has changes so
pub record Changes (old : HostBankPart) (what : BankPart → BankPart → Type 0)
    (new : HostBankPart) : Type 0 where
  pub was : BankPart
  pub is : BankPart
  pub before : old.part ≡ Some was
  pub after : Keeps is new
  pub does : what was is

-- an open one does this; a closed one is answered so, and nothing changes
pub record Does (old : HostBankPart) (answer : Reply) (what : BankPart → BankPart → Type 0)
    (reply : Reply) (new : HostBankPart) : Type 0 where
  pub shut : old.mark ≢ bank_part_mark → (reply ≡ answer) × IsSame old new
  pub done : old.mark ≡ bank_part_mark → Changes old what new

-- a worker serves an event, in the core of this number where it names one
abbrev pub Serves : HostBankPart → ℕ → Event → Reply → HostBankPart → Type 0
Serves old core event reply new =
    Does old closed (λ was is. PartServes was core event reply is) reply new

-- the same for the block that a word names, read as the one handle that it is, or as none
pub record ServesOn (old : HostBankPart) (block : BankBlock) (event : Handle → Event)
    (reply : Reply) (new : HostBankPart) : Type 0 where
  pub named :
      is_handle block.handle ≡ true
      → (handle : Handle) × (block.handle ≡ handle_word handle)
      × ReadsWord block.handle (Some handle)
      × Serves old (core_of block.core) (event handle) reply new
  pub unnamed : is_handle block.handle ≡ false → (reply ≡ no_block) × IsSame old new

-- the same for a place of a core that is named by a number, which may be no place's
pub record ServesAt (old : HostBankPart) (core number : ℕ) (event : Place → Event) (reply : Reply)
    (new : HostBankPart) : Type 0 where
  pub named :
      is_place number ≡ true
      → (place : Place) × (number ≡ number_of place)
      × Serves old (core_of core) (event place) reply new
  pub unnamed : is_place number ≡ false → (reply ≡ no_block) × IsSame old new

-- a worker shows its blocks of a core in the room
pub record Lists (old : HostBankPart) (core : ℕ) (actor : Actor) (room : List Reply)
    (reply : Reply) (new : HostBankPart) (told : List Reply) : Type 0 where
  pub shut : old.mark ≢ bank_part_mark → (reply ≡ closed) × IsSame old new × (told ≡ room)
  pub done :
      old.mark ≡ bank_part_mark
      → Changes old (λ was is. PartLists was core actor room reply is told) new

-- a worker leaves
abbrev pub Leaves : HostBankPart → Reply → HostBankPart → Type 0
Leaves old reply new = Does old closed (λ was is. PartLeaves was reply is) reply new

-- a question changes nothing
abbrev pub Tells : HostBankPart → BankPartQuestion → Reply → HostBankPart → Type 0
Tells old question reply new =
    Does old closed (λ was is. (is ≡ was) × PartTells was question reply) reply new

abbrev pub Finds : HostBankPart → (Policy → Option ℕ) → Reply → HostBankPart → Type 0
Finds old number reply new =
    Does old (valued 64 nobody) (λ was is. (is ≡ was) × PartFinds was number reply) reply new

-- a worker is given up, or a bank of services or the bank that it became; what else is open stays
abbrev pub GivesUpWorker : HostBankPart → Reply → HostBankPart → Type 0
GivesUpWorker old reply new = Does old closed (λ was is. DropsWorker was reply is) reply new

abbrev pub GivesUpService : HostBankPart → Reply → HostBankPart → Type 0
GivesUpService old reply new = Does old closed (λ was is. DropsService was reply is) reply new
