-- How a service opens, gives its workers, and becomes a core.
use Rattle.std.specs.Prelude.{◌≡◌, ◌≢◌, ℕ, List, Option, Some, Ok, Err, MatchOption}
use Rattle.hg_hosted.specs.declared.worker.HostedWorker.{HostedWorker}
use Rattle.hg_machine.specs.Lists.{Kept}
use Rattle.hg_reply.specs.declared.reply.Reply.{Reply}
use Rattle.hg_reply.specs.Replies.{closed, held, no_memory, plain, valued}
use Rattle.hg_service_replies.specs.Closing.{PartCloses}
use Rattle.hg_service_replies.specs.Opening.{IsOpening}
use Rattle.hg_service_replies.specs.Taking.{GivesWorker}
use Rattle.hg_service_replies.specs.declared.part.HostedPart.{HostedPart}
use Rattle.hg_service_replies.specs.declared.part.HostedPart.TheVariants as part
use Rattle.hg_ffi.specs.declared.host_core.HostCore.{HostCore}
use Rattle.hg_ffi.specs.declared.host_part.HostPart.{HostPart}
use Rattle.hg_ffi.specs.Calls as core
use Rattle.hg_ffi.specs.Opening.{Faults}
use Rattle.hg_ffi.specs.Owning.{open_mark, part_mark}
use Rattle.hg_ffi.specs.Parts.{Changes, Does, IsOpen, IsSame}

-- one that is open stays as it was; a closed one opens, or stays closed and tells why
pub record Opens (old : HostPart) (text room : List ℕ) (reply : Reply) (new : HostPart)
    (told : List ℕ) : Type 0 where
  pub held : old.mark ≡ part_mark → (reply ≡ held) × IsSame old new × (told ≡ room)
  pub opened :
      old.mark ≢ part_mark → reply.status ≡ 2
      → (part : HostedPart) × (reply ≡ valued 2 0) × (new.mark ≡ part_mark)
      × (new.part ≡ Some part) × IsOpening text part × (told ≡ room)
  pub refused :
      old.mark ≢ part_mark → reply.status ≢ 2 → IsSame old new × Faults text room reply told

-- an open service gives a worker
pub record Gives (old : HostPart) (number : ℕ) (worker : HostedWorker) (new : HostPart)
    : Type 0 where
  pub is_open : old.mark ≡ part_mark
  pub given : Changes old (λ was is. GivesWorker was number (Ok worker) is) new

-- none is given: an open service has none to give, or there is no memory for one, and then it stays as
-- it was; a closed one is answered so, and nothing changes
pub record GivesNone (old : HostPart) (number : ℕ) (reply : Reply) (new : HostPart) : Type 0 where
  pub memory : reply ≡ no_memory → (old.mark ≡ part_mark) × IsSame old new
  pub none :
      reply ≢ no_memory
      → Does old closed (λ was is. GivesWorker was number (Err reply) is) reply new

-- what stands where a worker goes stays where one stands already or none is given
pub record HandsOut (old : HostPart) (number : ℕ) (place : HostPart) (reply : Reply)
    (new left : HostPart) : Type 0 where
  pub held : place.mark ≡ part_mark → (reply ≡ held) × IsSame old new × IsSame place left
  pub given :
      place.mark ≢ part_mark → reply.status ≡ 2
      → (worker : HostedWorker) × (reply ≡ plain 2) × IsOpen left (part.Worker worker)
      × Gives old number worker new
  pub none :
      place.mark ≢ part_mark → reply.status ≢ 2
      → IsSame place left × GivesNone old number reply new

-- a part became this core, which waits there, since there is no memory to hand it out
pub record Waits (was : HostedPart) (core : Kept) (reply : Reply) (is : HostedPart) : Type 0 where
  pub made : PartCloses was (Ok core) part.Gone
  pub waits : is ≡ part.Core core
  pub reply_is : reply ≡ no_memory

-- an open service makes no core, or one that waits; a closed one is answered so, and nothing changes
abbrev pub MakesNone : HostPart → Reply → HostPart → Type 0
MakesNone old reply new =
    Does old closed (λ was is. (core : Option Kept)
    × MatchOption core (PartCloses was (Err reply) is) (λ core. Waits was core reply is)) reply new

-- an open service makes this core
pub record Makes (old : HostPart) (core : Kept) (new : HostPart) : Type 0 where
  pub is_open : old.mark ≡ part_mark
  pub made : Changes old (λ was is. PartCloses was (Ok core) is) new

-- what stands where the core goes stays where one stands already or none is made
pub record Becomes (old : HostPart) (place : HostCore) (reply : Reply) (new : HostPart)
    (left : HostCore) : Type 0 where
  pub held : place.mark ≡ open_mark → (reply ≡ held) × IsSame old new × core.IsSame place left
  pub made :
      place.mark ≢ open_mark → reply.status ≡ 2
      → (reply ≡ plain 2) × (left.mark ≡ open_mark) × Makes old left.core new
  pub none :
      place.mark ≢ open_mark → reply.status ≢ 2
      → core.IsSame place left × MakesNone old reply new
