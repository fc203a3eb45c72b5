use Rattle.std.proofs.Common.{sym, subst}
use Rattle.hg_worker.specs.States.{IsNamed}
use Rattle.hg_hosted.specs.Calls.{Collects}
use Rattle.hg_hosted.proofs.serving.collect_by.Goals as goal

pub returns-clause-done : goal.returns-clause-done
returns-clause-done g c =
    let said = c.collect_own-answer.ensures in
    let answer = c.collect_own-answer.result in
    let before = c.with_name-worker.result.inner in
    subst (λ own. Collects answer own.value c.without_name.result.value) c.with_name-worker.ensures
    (subst (λ own. Collects answer before.value own.value) (sym c.without_name.ensures)
    record {
      collect = said.collect;
      any = said.any;
      pages = said.pages;
      collected = said.collected;
      out = said.out;
      seats = said.seats;
      any_hand = said.any_hand;
      home = said.home;
      rest = said.rest;
    })

pub returns-clause-named : goal.returns-clause-named
returns-clause-named g c =
    subst (λ own. IsNamed g.N.ServiceName.policy g.N.TableName.table own.value)
    (sym c.without_name.ensures) c.collect_own-answer.new.self.named
