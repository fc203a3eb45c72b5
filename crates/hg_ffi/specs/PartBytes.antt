-- What calls for bytes of a block do, for a worker of a service.
use Rattle.std.specs.Prelude.{◌≡◌, ◌≢◌, ℕ, List}
use Rattle.hg_bytes.specs.Bytes.{ReadsBytes, WritesBytes}
use Rattle.hg_bytes.specs.OfWorker.{worker_reads, worker_writes}
use Rattle.hg_bytes.specs.declared.of_worker.WorkerBlock.{WorkerBlock}
use Rattle.hg_bytes.specs.declared.progress.Progress.{Progress}
use Rattle.hg_hosted.specs.declared.worker.HostedWorker.{HostedWorker}
use Rattle.hg_place.specs.declared.Actor.{Actor}
use Rattle.hg_place.specs.declared.Handle.{Handle}
use Rattle.hg_reply.specs.declared.reply.Reply.{Reply}
use Rattle.hg_reply.specs.Replies.{closed}
use Rattle.hg_service_replies.specs.Serving.{IsOther}
use Rattle.hg_service_replies.specs.declared.part.HostedPart.{HostedPart}
use Rattle.hg_service_replies.specs.declared.part.HostedPart.TheVariants as part
use Rattle.hg_ffi.specs.declared.host_part.HostPart.{HostPart}
use Rattle.hg_ffi.specs.Bytes.{bytes_reply}
use Rattle.hg_ffi.specs.Owning.{part_mark}
use Rattle.hg_ffi.specs.Parts.{Changes, Does, IsSame}

-- a block, and who asks for it
abbrev pub worker_block : Actor → Handle → WorkerBlock
worker_block actor handle = record { actor = actor; handle = handle }

-- a worker reads bytes of a block into the room, as far as no word's Read is refused
abbrev pub WorkerReads
    : Actor → Handle → ℕ → List ℕ → Reply → HostedWorker → HostedWorker → List ℕ → Type 0
WorkerReads actor handle first room reply old new told =
    (made : Progress)
    × ReadsBytes worker_reads worker_writes (worker_block actor handle) first room made told old new
    × (reply ≡ bytes_reply made)

-- it writes bytes into a block, as far as no word's Read or Write is refused
abbrev pub WorkerWrites
    : Actor → Handle → ℕ → List ℕ → Reply → HostedWorker → HostedWorker → Type 0
WorkerWrites actor handle first bytes reply old new =
    (made : Progress)
    × WritesBytes worker_reads worker_writes (worker_block actor handle) first bytes made old new
    × (reply ≡ bytes_reply made)

-- any other part is answered as closed, and stays, as the room does
abbrev pub PartReadsBytes
    : HostedPart → Actor → Handle → ℕ → List ℕ → Reply → HostedPart → List ℕ → Type 0
PartReadsBytes (part.Worker old) actor handle first room reply new told =
    (left : HostedWorker) × (new ≡ part.Worker left)
    × WorkerReads actor handle first room reply old left told
PartReadsBytes (part.Service old) actor handle first room reply new told =
    IsOther (part.Service old) reply new × (told ≡ room)
PartReadsBytes (part.Core old) actor handle first room reply new told =
    IsOther (part.Core old) reply new × (told ≡ room)
PartReadsBytes (part.Left gone) actor handle first room reply new told =
    IsOther (part.Left gone) reply new × (told ≡ room)
PartReadsBytes part.Gone actor handle first room reply new told =
    IsOther part.Gone reply new × (told ≡ room)

abbrev pub PartWritesBytes
    : HostedPart → Actor → Handle → ℕ → List ℕ → Reply → HostedPart → Type 0
PartWritesBytes (part.Worker old) actor handle first bytes reply new =
    (left : HostedWorker) × (new ≡ part.Worker left)
    × WorkerWrites actor handle first bytes reply old left
PartWritesBytes (part.Service old) actor handle first bytes reply new =
    IsOther (part.Service old) reply new
PartWritesBytes (part.Core old) actor handle first bytes reply new =
    IsOther (part.Core old) reply new
PartWritesBytes (part.Left gone) actor handle first bytes reply new =
    IsOther (part.Left gone) reply new
PartWritesBytes part.Gone actor handle first bytes reply new = IsOther part.Gone reply new

-- the same of what a host keeps
pub record ReadsPart (old : HostPart) (actor : Actor) (handle : Handle) (first : ℕ)
    (room : List ℕ) (reply : Reply) (new : HostPart) (told : List ℕ) : Type 0 where
  pub shut : old.mark ≢ part_mark → (reply ≡ closed) × IsSame old new × (told ≡ room)
  pub done :
      old.mark ≡ part_mark
      → Changes old (λ was is. PartReadsBytes was actor handle first room reply is told) new

abbrev pub WritesPart : HostPart → Actor → Handle → ℕ → List ℕ → Reply → HostPart → Type 0
WritesPart old actor handle first bytes reply new =
    Does old closed (λ was is. PartWritesBytes was actor handle first bytes reply is) reply new
