-- What a worker shows of the blocks that it holds.
use Rattle.std.specs.Prelude.{◌≡◌, ℕ, ◌<◌, ◌≤◌, List, Option, Some, MatchOption}
use Rattle.std.specs.Prelude.{length, slice_get}
use Rattle.hg_place.specs.declared.Actor.{Actor}
use Rattle.hg_machine.specs.declared.Answer.TheVariants as answer
use Rattle.hg_machine.specs.declared.Row.{Row}
use Rattle.hg_hosted.specs.declared.worker.HostedWorker.{HostedWorker}
use Rattle.hg_hosted.specs.Behind.{Stays}
use Rattle.hg_hosted.specs.Calls.{ListsAll}
use Rattle.hg_hosted.specs.Serving.{Serves}
use Rattle.hg_reply.specs.declared.reply.Reply.{Reply}
use Rattle.hg_reply.specs.Replies.{no_memory, reply_of, valued}
use Rattle.hg_service_replies.specs.declared.part.HostedPart.{HostedPart}
use Rattle.hg_service_replies.specs.declared.part.HostedPart.TheVariants as part
use Rattle.hg_service_replies.specs.Serving.{IsOther}

-- the rows stand in the room, as many as there is room for; what is behind them is as it was
pub record AreTold (rows : List Row) (room told : List Reply) : Type 0 where
  pub all : length told ≡ length room
  pub each :
      (k : ℕ) (row : Row) → k < length room → slice_get rows k ≡ Some row
      → slice_get told k ≡ Some (reply_of (answer.Listed row))
  pub rest : (k : ℕ) → length rows ≤ k → slice_get told k ≡ slice_get room k

-- a worker shows them and tells how many they are, or memory was refused and nothing is done; and
-- what is shared stays
pub record WorkerLists (old : HostedWorker) (actor : Actor) (room : List Reply) (reply : Reply)
    (new : HostedPart) (told : List Reply) : Type 0 where
  pub left : HostedWorker
  pub now : new ≡ part.Worker left
  pub shown : Option (List Row)
  pub does :
      MatchOption shown ((reply ≡ no_memory) × (told ≡ room) × Serves Stays old left)
      (λ rows. (reply ≡ valued 2 (length rows)) × AreTold rows room told
      × Serves (ListsAll actor rows) old left)
  pub shared : left.shared ≡ old.shared

-- any other part is answered as closed, and stays, as the room does
abbrev pub PartLists
    : HostedPart → Actor → List Reply → Reply → HostedPart → List Reply → Type 0
PartLists (part.Worker old) actor room reply new told = WorkerLists old actor room reply new told
PartLists (part.Service service) actor room reply new told =
    IsOther (part.Service service) reply new × (told ≡ room)
PartLists (part.Core core) actor room reply new told =
    IsOther (part.Core core) reply new × (told ≡ room)
PartLists (part.Left gone) actor room reply new told =
    IsOther (part.Left gone) reply new × (told ≡ room)
PartLists part.Gone actor room reply new told = IsOther part.Gone reply new × (told ≡ room)
