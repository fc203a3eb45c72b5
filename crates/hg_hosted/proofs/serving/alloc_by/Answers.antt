use Rattle.std.proofs.Common.{sym, subst}
use Rattle.hg_worker.specs.States.{IsNamed}
use Rattle.hg_hosted.specs.Calls.{Allocates}
use Rattle.hg_hosted.proofs.serving.alloc_by.Goals as goal

pub returns-clause-done : goal.returns-clause-done
returns-clause-done g c =
    let said = c.alloc-answer.ensures in
    let answer = c.alloc-answer.result in
    let before = c.with_name-worker.result.inner in
    subst (λ own. Allocates c.args.actor c.args.arena c.args.bytes answer own.value c.without_name.result.value) c.with_name-worker.ensures
    (subst (λ own. Allocates c.args.actor c.args.arena c.args.bytes answer before.value own.value) (sym c.without_name.ensures)
    record {
      alloc = said.alloc;
      given = said.given;
      chosen = said.chosen;
      no_room = said.no_room;
      lists = said.lists;
      queues = said.queues;
      refused = said.refused;
      unchanged = said.unchanged;
      any = said.any;
      any_hand = said.any_hand;
      home = said.home;
      rest = said.rest;
    })

pub returns-clause-named : goal.returns-clause-named
returns-clause-named g c =
    subst (λ own. IsNamed g.N.ServiceName.policy g.N.TableName.table own.value)
    (sym c.without_name.ensures) c.alloc-answer.new.self.named
