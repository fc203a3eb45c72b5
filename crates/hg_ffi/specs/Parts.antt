-- What a call of a host does to a part of a service.
use Rattle.std.specs.Prelude.{◌≡◌, ◌≢◌, ℕ, List, Option, Some, true, false}
use Rattle.hg_machine.specs.declared.Event.{Event}
use Rattle.hg_machine.specs.Policy.{Policy}
use Rattle.hg_place.specs.declared.Actor.{Actor}
use Rattle.hg_place.specs.declared.Handle.{Handle}
use Rattle.hg_place.specs.declared.Place.{Place}
use Rattle.hg_place.specs.Places.{number_of}
use Rattle.hg_place.specs.HandleWords.{handle_word, is_handle, is_place, ReadsWord}
use Rattle.hg_reply.specs.declared.reply.Reply.{Reply}
use Rattle.hg_reply.specs.Naming.{nobody}
use Rattle.hg_reply.specs.Replies.{closed, no_block, valued}
use Rattle.hg_service_replies.specs.Asking.{PartFinds, PartTells}
use Rattle.hg_service_replies.specs.Dropping.{DropsService, DropsWorker}
use Rattle.hg_service_replies.specs.Leaving.{PartLeaves}
use Rattle.hg_service_replies.specs.Listing.{PartLists}
use Rattle.hg_service_replies.specs.Serving.{PartServes}
use Rattle.hg_service_replies.specs.Words.{PartReads, PartWrites}
use Rattle.hg_service_replies.specs.declared.asking.PartQuestion.{PartQuestion}
use Rattle.hg_service_replies.specs.declared.part.HostedPart.{HostedPart}
use Rattle.hg_service_replies.specs.declared.part.HostedPart.TheVariants as part
use Rattle.hg_ffi.specs.declared.host_part.HostPart.{HostPart}
use Rattle.hg_ffi.specs.Owning.{part_mark}

-- it is open or closed as it was, with the same part
abbrev pub IsSame : HostPart → HostPart → Type 0
IsSame old new = (new.mark ≡ old.mark) × (new.part ≡ old.part)

-- it is open with this part
abbrev pub IsOpen : HostPart → HostedPart → Type 0
IsOpen host part = (host.mark ≡ part_mark) × (host.part ≡ Some part)

-- it is open with what there is, and closed where that is a worker that has left or nothing any more
abbrev pub Keeps : HostedPart → HostPart → Type 0
Keeps (part.Worker worker) host = IsOpen host (part.Worker worker)
Keeps (part.Service service) host = IsOpen host (part.Service service)
Keeps (part.Core core) host = IsOpen host (part.Core core)
Keeps (part.Left gone) host = host.mark ≢ part_mark
Keeps part.Gone host = host.mark ≢ part_mark

-- what an open one has changes so
pub record Changes (old : HostPart) (what : HostedPart → HostedPart → Type 0) (new : HostPart)
    : Type 0 where
  pub was : HostedPart
  pub is : HostedPart
  pub before : old.part ≡ Some was
  pub after : Keeps is new
  pub does : what was is

-- an open one does this; a closed one is answered so, and nothing changes
pub record Does (old : HostPart) (answer : Reply) (what : HostedPart → HostedPart → Type 0)
    (reply : Reply) (new : HostPart) : Type 0 where
  pub shut : old.mark ≢ part_mark → (reply ≡ answer) × IsSame old new
  pub done : old.mark ≡ part_mark → Changes old what new

-- a worker serves an event
abbrev pub Serves : HostPart → Event → Reply → HostPart → Type 0
Serves old event reply new = Does old closed (λ was is. PartServes was event reply is) reply new

-- the same for the block that a word names, read as the one handle that it is, or as none
pub record ServesOn (old : HostPart) (word : ℕ) (event : Handle → Event) (reply : Reply)
    (new : HostPart) : Type 0 where
  pub named :
      is_handle word ≡ true
      → (handle : Handle) × (word ≡ handle_word handle) × ReadsWord word (Some handle)
      × Serves old (event handle) reply new
  pub unnamed : is_handle word ≡ false → (reply ≡ no_block) × IsSame old new

-- the same for a place that is named by a number, which may be no place's
pub record ServesAt (old : HostPart) (number : ℕ) (event : Place → Event) (reply : Reply)
    (new : HostPart) : Type 0 where
  pub named :
      is_place number ≡ true
      → (place : Place) × (number ≡ number_of place) × Serves old (event place) reply new
  pub unnamed : is_place number ≡ false → (reply ≡ no_block) × IsSame old new

-- a worker shows its blocks in the room
pub record Lists (old : HostPart) (actor : Actor) (room : List Reply) (reply : Reply)
    (new : HostPart) (told : List Reply) : Type 0 where
  pub shut : old.mark ≢ part_mark → (reply ≡ closed) × IsSame old new × (told ≡ room)
  pub done :
      old.mark ≡ part_mark → Changes old (λ was is. PartLists was actor room reply is told) new

-- a worker reads words of a block into the room
pub record ReadsWords (old : HostPart) (actor : Actor) (handle : Handle) (first : ℕ)
    (room : List ℕ) (reply : Reply) (new : HostPart) (told : List ℕ) : Type 0 where
  pub shut : old.mark ≢ part_mark → (reply ≡ closed) × IsSame old new × (told ≡ room)
  pub done :
      old.mark ≡ part_mark
      → Changes old (λ was is. PartReads was actor handle first room reply is told) new

-- it writes words into a block
abbrev pub WritesWords : HostPart → Actor → Handle → ℕ → List ℕ → Reply → HostPart → Type 0
WritesWords old actor handle first words reply new =
    Does old closed (λ was is. PartWrites was actor handle first words reply is) reply new

-- what is done for the block that a word names, or what there is where it is no handle's
pub record OnWord (word : ℕ) (does : Handle → Type 0) (stays : Type 0) : Type 0 where
  pub named :
      is_handle word ≡ true
      → (handle : Handle) × (word ≡ handle_word handle) × ReadsWord word (Some handle) × does handle
  pub unnamed : is_handle word ≡ false → stays

-- a worker leaves
abbrev pub Leaves : HostPart → Reply → HostPart → Type 0
Leaves old reply new = Does old closed (λ was is. PartLeaves was reply is) reply new

-- a question changes nothing
abbrev pub Tells : HostPart → PartQuestion → Reply → HostPart → Type 0
Tells old question reply new =
    Does old closed (λ was is. (is ≡ was) × PartTells was question reply) reply new

abbrev pub Finds : HostPart → (Policy → Option ℕ) → Reply → HostPart → Type 0
Finds old number reply new =
    Does old (valued 64 nobody) (λ was is. (is ≡ was) × PartFinds was number reply) reply new

-- a worker is given up, or a service or the core that it became; what else is open stays
abbrev pub GivesUpWorker : HostPart → Reply → HostPart → Type 0
GivesUpWorker old reply new = Does old closed (λ was is. DropsWorker was reply is) reply new

abbrev pub GivesUpService : HostPart → Reply → HostPart → Type 0
GivesUpService old reply new = Does old closed (λ was is. DropsService was reply is) reply new
