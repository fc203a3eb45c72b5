use Rattle.std.proofs.Common.{sym, subst}
use Rattle.hg_worker.specs.States.{IsNamed}
use Rattle.hg_hosted.specs.Calls.{Reads}
use Rattle.hg_hosted.proofs.serving.read_by.Goals as goal

pub returns-clause-done : goal.returns-clause-done
returns-clause-done g c =
    let said = c.read-answer.ensures in
    let answer = c.read-answer.result in
    let before = c.with_name-worker.result.inner in
    subst (λ own. Reads c.args.actor c.args.handle c.args.index answer own.value c.without_name.result.value) c.with_name-worker.ensures
    (subst (λ own. Reads c.args.actor c.args.handle c.args.index answer before.value own.value) (sym c.without_name.ensures)
    record {
      read = said.read;
      judged = said.judged;
      away = said.away;
      any_hand = said.any_hand;
      once = said.once;
      kept = said.kept;
      home = said.home;
      lists = said.lists;
      queues = said.queues;
      rest = said.rest;
    })

pub returns-clause-named : goal.returns-clause-named
returns-clause-named g c =
    subst (λ own. IsNamed g.N.ServiceName.policy g.N.TableName.table own.value)
    (sym c.without_name.ensures) c.read-answer.new.self.named
