use Rattle.std.proofs.Common.{◌∙◌, sym}
use Rattle.hg_machine.specs.Policy.{is_tenant}
use Rattle.hg_bank_service.specs.Sums.{charge_over}
use Rattle.hg_bank_service_replies.proofs.Told.{charge_told, none_told}
use Rattle.hg_bank_service_replies.proofs.asking.charge_of.Goals as goal

pub returns-in-Some : goal.returns-in-Some
returns-in-Some c =
    let worker = c.args.worker.now in
    c.valued.ensures ∙ charge_told (is_tenant worker.policy c.args.tenant) (charge_over worker.workers.items c.args.tenant) c.in-Some.bytes (sym c.in-Some.is ∙ c.charge.ensures)

pub returns-in-None : goal.returns-in-None
returns-in-None c =
    let worker = c.args.worker.now in
    c.plain.ensures ∙ none_told (is_tenant worker.policy c.args.tenant) (charge_over worker.workers.items c.args.tenant) (sym c.in-None.is ∙ c.charge.ensures)
