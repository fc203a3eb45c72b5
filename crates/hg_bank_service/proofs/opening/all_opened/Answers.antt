use Rattle.std.proofs.Common.{◌+◌, List, sym, subst}
use Rattle.hg_machine.specs.Policy.{Policy}
use Rattle.hg_hosted.specs.declared.service.HostedService.{HostedService}
use Rattle.hg_hosted.specs.New.{IsOpened}
use Rattle.hg_bank_service.specs.Rows.{IsOpening}
use Rattle.hg_bank_service.proofs.Dealings.{opening_more}
use Rattle.hg_bank_service.proofs.opening.all_opened.Goals as goal

pub loop-preserved : goal.loop-preserved
loop-preserved c =
    let service = c.in_ok-service.service in
    let workers = c.in_ok-service.workers.items in
    subst (λ (xs : List HostedService). IsOpening c.args.policy.now (c.loop.counter + 1) xs
    c.deal.new.rows.items) (sym c.in_ok-push.ensures.items)
    (opening_more service workers c.loop.invariant
    (subst (λ (p : Policy). IsOpened p service workers) c.in_ok-own.ensures
    c.in_ok-service.ensures) c.in_ok-deal.ensures)
