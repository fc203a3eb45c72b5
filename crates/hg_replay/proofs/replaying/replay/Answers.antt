use Rattle.std.proofs.Common.{◌≡◌, ◌<◌, None, get_or, ap, sym, subst, ◌∙◌}
use Rattle.hg_trace.specs.Stored.{lines_in}
use Rattle.hg_replay.specs.Events.{unknown_worker}
use Rattle.hg_replay.proofs.GoingOn.{workers_below}
use Rattle.hg_replay.proofs.replaying.replay.Goals as goal

pub replay_on-requires-clause-workers : goal.replay_on-requires-clause-workers
replay_on-requires-clause-workers g c =
    let workers = c.args.policy.workers in
    let lines = lines_in c.args.trace.now in
    let none : None ≡ unknown_worker workers lines = c.in_default.ensures ∙ ap (λ n. unknown_worker n lines) c.workers.ensures.workers in
    λ k d within. subst (λ core. (get_or lines k d).worker < core.state.policy.workers) (sym c.in-Ok.ensures.opened) (workers_below workers lines none k d within)
