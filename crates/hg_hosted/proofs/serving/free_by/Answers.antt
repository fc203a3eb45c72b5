use Rattle.std.proofs.Common.{sym, subst}
use Rattle.hg_worker.specs.States.{IsNamed}
use Rattle.hg_hosted.specs.Calls.{Frees}
use Rattle.hg_hosted.proofs.serving.free_by.Goals as goal

pub returns-clause-done : goal.returns-clause-done
returns-clause-done g c =
    let said = c.free-answer.ensures in
    let answer = c.free-answer.result in
    let before = c.with_name-worker.result.inner in
    subst (λ own. Frees c.args.actor c.args.handle answer own.value c.without_name.result.value) c.with_name-worker.ensures
    (subst (λ own. Frees c.args.actor c.args.handle answer before.value own.value) (sym c.without_name.ensures)
    record {
      freed = said.freed;
      refused = said.refused;
      served = said.served;
      judged = said.judged;
      records = said.records;
      lists = said.lists;
      queues = said.queues;
      kept = said.kept;
      home = said.home;
      any_hand = said.any_hand;
      held = said.held;
      once = said.once;
      few = said.few;
      parted = said.parted;
      busy = said.busy;
      hand = said.hand;
      rest = said.rest;
    })

pub returns-clause-named : goal.returns-clause-named
returns-clause-named g c =
    subst (λ own. IsNamed g.N.ServiceName.policy g.N.TableName.table own.value)
    (sym c.without_name.ensures) c.free-answer.new.self.named
