use Rattle.std.proofs.Common.{sym, subst}
use Rattle.hg_worker.specs.States.{IsNamed}
use Rattle.hg_hosted.specs.Calls.{LooksAt}
use Rattle.hg_hosted.proofs.serving.look_by.Goals as goal

pub returns-clause-done : goal.returns-clause-done
returns-clause-done g c =
    let said = c.look-answer.ensures in
    let answer = c.look-answer.result in
    let before = c.with_name-worker.result.inner in
    subst (λ own. LooksAt c.args.actor c.args.place answer own.value c.without_name.result.value) c.with_name-worker.ensures
    (subst (λ own. LooksAt c.args.actor c.args.place answer before.value own.value) (sym c.without_name.ensures)
    record {
      look = said.look;
      judged = said.judged;
      row = said.row;
      away = said.away;
      any_hand = said.any_hand;
      once = said.once;
      kept = said.kept;
      home = said.home;
      lists = said.lists;
      queues = said.queues;
      rest = said.rest;
    })

pub returns-clause-named : goal.returns-clause-named
returns-clause-named g c =
    subst (λ own. IsNamed g.N.ServiceName.policy g.N.TableName.table own.value)
    (sym c.without_name.ensures) c.look-answer.new.self.named
