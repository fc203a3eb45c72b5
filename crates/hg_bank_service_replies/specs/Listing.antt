-- What a bank worker shows of the blocks that it holds in a core.
use Rattle.std.specs.Prelude.{◌≡◌, ℕ, List, Option, MatchOption, length}
use Rattle.hg_place.specs.declared.Actor.{Actor}
use Rattle.hg_machine.specs.declared.Row.{Row}
use Rattle.hg_reply.specs.declared.reply.Reply.{Reply}
use Rattle.hg_reply.specs.Replies.{no_memory, valued}
use Rattle.hg_service_replies.specs.Listing.{AreTold}
use Rattle.hg_bank_service.specs.Listing.{ListsIn, ListsNothing}
use Rattle.hg_bank_service.specs.declared.worker.BankWorker.{BankWorker}
use Rattle.hg_bank_service_replies.specs.declared.part.BankPart.{BankPart}
use Rattle.hg_bank_service_replies.specs.declared.part.BankPart.TheVariants as part
use Rattle.hg_bank_service_replies.specs.Serving.{IsOther}

-- a worker shows them and tells how many they are, or memory was refused and nothing is done
pub record WorkerLists (old : BankWorker) (core : ℕ) (actor : Actor) (room : List Reply)
    (reply : Reply) (new : BankPart) (told : List Reply) : Type 0 where
  pub left : BankWorker
  pub now : new ≡ part.Worker left
  pub shown : Option (List Row)
  pub does :
      MatchOption shown ((reply ≡ no_memory) × (told ≡ room) × ListsNothing core old left)
      (λ rows. (reply ≡ valued 2 (length rows)) × AreTold rows room told
      × ListsIn core actor rows old left)

-- any other part is answered as closed, and stays, as the room does
abbrev pub PartLists
    : BankPart → ℕ → Actor → List Reply → Reply → BankPart → List Reply → Type 0
PartLists (part.Worker old) core actor room reply new told =
    WorkerLists old core actor room reply new told
PartLists (part.Leaving left) core actor room reply new told =
    IsOther (part.Leaving left) reply new × (told ≡ room)
PartLists (part.Service opened) core actor room reply new told =
    IsOther (part.Service opened) reply new × (told ≡ room)
PartLists (part.Bank bank) core actor room reply new told =
    IsOther (part.Bank bank) reply new × (told ≡ room)
PartLists (part.Left gone) core actor room reply new told =
    IsOther (part.Left gone) reply new × (told ≡ room)
PartLists part.Gone core actor room reply new told = IsOther part.Gone reply new × (told ≡ room)
