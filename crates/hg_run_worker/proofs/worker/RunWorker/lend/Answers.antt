use Rattle.std.proofs.Common.{◌∙◌, [], ◌∷◌, refl, sym}
use Rattle.hg_roles.specs.Roles.{of_worker}
use Rattle.hg_run_table.specs.Calls.{log_in}
use Rattle.hg_run_table.specs.Seated.{HaveRoles}
use Rattle.hg_run_worker.specs.AtWork.{worker_view}
use Rattle.hg_run_worker.proofs.SlotsLent.{at_position}
use Rattle.hg_run_worker.proofs.worker.RunWorker.lend.Goals as goal
use Rattle.hg_run_worker.proofs.worker.RunWorker.lend.Goals.{After-ask}
use Rattle.hg_run_worker.proofs.worker.RunWorker.lend.Given.{Over}

-- the part that is lent is the worker's
lent_has : (g : Over) (c : After-ask g) → HaveRoles c.ask.new.seat.seat.me.0.run
    (of_worker
    (worker_view c.args.self.now.policy c.args.self.now.number c.args.self.now.hand
    c.args.self.now.heap.segments)
    (log_in c.args.self.now.call) ∷ [])
lent_has g c =
    c.ask.ensures.roles _ (c.split-call.ensures.roles [] _ refl c.requires.ready.work.worker).1

pub lend-requires-clause-may_lend : goal.lend-requires-clause-may_lend
lend-requires-clause-may_lend g c = λ one there.
    let at = (goal.at.lend-requires-clause-may_lend g c).After-ask in
    record {
      same =
          c.ask.ensures.same ∙ c.split-call.ensures.of_it ∙ c.requires.ready.work.same
          ∙ sym (c.requires.ready.work.seated _ one (at_position c.args.self.now.heap.segments c.args.segment one there)).same;
      one = (lent_has g at).count;
      bare = c.ask.ensures.lives ∙ c.split-call.ensures.lives_given ∙ c.requires.ready.work.bare;
    }

pub returns-clause-lent : goal.returns-clause-lent
returns-clause-lent g c = record {
  what = c.ask.new.seat;
  work = c.requires.ready.work;
  once = c.settled.ensures.once;
  lent = c.lend.ensures.lent;
  has = lent_has g (goal.at.returns-clause-lent g c).After-ask;
  asks = c.ask.ensures.asked c.args.self.now.number;
}
