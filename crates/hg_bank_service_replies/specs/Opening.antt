-- The bank of services of a policy's text.
use Rattle.std.specs.Prelude.{◌≡◌, ℕ, List, Option, Some, Ok, map}
use Rattle.hg_machine.specs.Policy.{Policy}
use Rattle.hg_policy_text.specs.Document.{document_of}
use Rattle.hg_bank_service.specs.New.{IsOpenedBank}
use Rattle.hg_bank_service.specs.declared.worker.BankWorker.{BankWorker}
use Rattle.hg_bank_service_replies.specs.declared.part.BankPart.{BankPart}
use Rattle.hg_bank_service_replies.specs.declared.part.BankPart.TheVariants as part
use Rattle.hg_bank_service_replies.specs.declared.part.OpenBank.{OpenBank}
use Rattle.hg_bank_service_replies.specs.declared.part.Ungiven.{Ungiven}
use Rattle.hg_bank_service_replies.specs.declared.part.Ungiven.TheVariants as ungiven

-- a worker that stands ready
abbrev pub ready : BankWorker → Option Ungiven
ready worker = Some (ungiven.Ready worker)

-- of the policy that the text is, with so many cores, and a new worker ready at each number
pub record IsNewBank (text : List ℕ) (cores : ℕ) (new : OpenBank) : Type 0 where
  pub policy : Policy
  pub read : document_of text ≡ Ok policy
  pub workers : List BankWorker
  pub opened : IsOpenedBank policy cores new.service workers
  pub there : new.workers.items ≡ map ready workers

-- such a one
abbrev pub IsOpening : List ℕ → ℕ → BankPart → Type 0
IsOpening text cores (part.Worker worker) = ⊥
IsOpening text cores (part.Leaving left) = ⊥
IsOpening text cores (part.Service opened) = IsNewBank text cores opened
IsOpening text cores (part.Bank bank) = ⊥
IsOpening text cores (part.Left gone) = ⊥
IsOpening text cores part.Gone = ⊥
