use Rattle.std.proofs.Common.{◌≡◌, None, ap, ◌∙◌}
use Rattle.hg_trace.specs.Stored.{lines_in}
use Rattle.hg_replay.specs.Events.{unknown_worker}
use Rattle.hg_replay.proofs.GoingOn.{workers_below}
use Rattle.hg_state.proofs.run.left_as.Goals as goal

pub left_by-requires : goal.left_by-requires
left_by-requires c =
    let workers = c.args.policy.workers in
    let lines = lines_in c.args.trace.now in
    let none : None ≡ unknown_worker workers lines = c.in_default.ensures ∙ ap (λ n. unknown_worker n lines) c.workers.ensures.workers in
    λ k d within. workers_below workers lines none k d within
