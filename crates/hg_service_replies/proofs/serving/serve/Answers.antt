use Rattle.std.proofs.Common.{Some, None, refl, sym, subst}
use Rattle.hg_service_replies.specs.declared.part.HostedPart.TheVariants as part
use Rattle.hg_service_replies.specs.Serving.{PartServes}
use Rattle.hg_service_replies.proofs.serving.serve.Goals as goal

pub returns-in-Some : goal.returns-in-Some
returns-in-Some c =
    subst (λ p. PartServes p c.args.event c.reply_of.result (part.Worker c.step.new.self)) (sym c.in-Worker.is)
    (c.step.new.self, refl, record { answer = Some c.in-Some.answer; told = c.reply_of.ensures; does = c.in-Some.ensures.served; reach = c.step.ensures.reach })

pub returns-in-None : goal.returns-in-None
returns-in-None c =
    subst (λ p. PartServes p c.args.event c.plain.result (part.Worker c.step.new.self)) (sym c.in-Worker.is)
    (c.step.new.self, refl, record { answer = None; told = c.plain.ensures; does = c.in-None.ensures.served; reach = c.step.ensures.reach })
