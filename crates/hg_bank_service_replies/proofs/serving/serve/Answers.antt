use Rattle.std.proofs.Common.{refl, sym, subst}
use Rattle.hg_bank_service_replies.specs.declared.part.BankPart.TheVariants as part
use Rattle.hg_bank_service_replies.specs.Serving.{PartServes}
use Rattle.hg_bank_service_replies.proofs.serving.serve.Goals as goal

pub returns-in-Worker : goal.returns-in-Worker
returns-in-Worker c =
    subst (λ p. PartServes p c.args.core c.args.event c.step.result (part.Worker c.step.new.worker)) (sym c.in-Worker.is)
    (c.step.new.worker, refl, c.step.ensures)
