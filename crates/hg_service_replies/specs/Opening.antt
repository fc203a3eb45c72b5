-- The service of a policy's text.
use Rattle.std.specs.Prelude.{◌≡◌, ℕ, List, Option, Some, Ok, map}
use Rattle.hg_machine.specs.Policy.{Policy}
use Rattle.hg_policy_text.specs.Document.{document_of}
use Rattle.hg_hosted.specs.declared.worker.HostedWorker.{HostedWorker}
use Rattle.hg_hosted.specs.New.{IsOpened}
use Rattle.hg_service_replies.specs.declared.part.HostedPart.{HostedPart}
use Rattle.hg_service_replies.specs.declared.part.HostedPart.TheVariants as part
use Rattle.hg_service_replies.specs.declared.part.OpenService.{OpenService}
use Rattle.hg_service_replies.specs.declared.part.Ungiven.{Ungiven}
use Rattle.hg_service_replies.specs.declared.part.Ungiven.TheVariants as ungiven

-- a worker that stands ready
abbrev pub ready : HostedWorker → Option Ungiven
ready worker = Some (ungiven.Ready worker)

-- of the policy that the text is, with a new worker ready at each number
pub record IsNewService (text : List ℕ) (service : OpenService) : Type 0 where
  pub policy : Policy
  pub read : document_of text ≡ Ok policy
  pub workers : List HostedWorker
  pub opened : IsOpened policy service.service workers
  pub there : service.workers.items ≡ map ready workers

-- such a service
abbrev pub IsOpening : List ℕ → HostedPart → Type 0
IsOpening text (part.Worker worker) = ⊥
IsOpening text (part.Service service) = IsNewService text service
IsOpening text (part.Core core) = ⊥
IsOpening text (part.Left gone) = ⊥
IsOpening text part.Gone = ⊥
