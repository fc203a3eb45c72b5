use Rattle.std.proofs.Common.{sym, subst}
use Rattle.hg_worker.specs.States.{IsNamed}
use Rattle.hg_hosted.specs.Calls.{Writes}
use Rattle.hg_hosted.proofs.serving.write_by.Goals as goal

pub returns-clause-done : goal.returns-clause-done
returns-clause-done g c =
    let said = c.write-answer.ensures in
    let answer = c.write-answer.result in
    let before = c.with_name-worker.result.inner in
    subst (λ own. Writes c.args.actor c.args.handle c.args.index c.args.value answer own.value c.without_name.result.value) c.with_name-worker.ensures
    (subst (λ own. Writes c.args.actor c.args.handle c.args.index c.args.value answer before.value own.value) (sym c.without_name.ensures)
    record {
      write = said.write;
      judged = said.judged;
      away = said.away;
      any_hand = said.any_hand;
      once = said.once;
      kept = said.kept;
      wrote = said.wrote;
      home = said.home;
      lists = said.lists;
      queues = said.queues;
      rest = said.rest;
    })

pub returns-clause-named : goal.returns-clause-named
returns-clause-named g c =
    subst (λ own. IsNamed g.N.ServiceName.policy g.N.TableName.table own.value)
    (sym c.without_name.ensures) c.write-answer.new.self.named
