use Rattle.std.specs.Prelude.{[], ◌∷◌}
use Rattle.hg_roles.specs.Roles.{of_worker}
use Rattle.hg_run_table.specs.Calls.{log_in}
use Rattle.hg_run_table.specs.Picks.{made_by, change_by}
use Rattle.hg_run_table.proofs.table.RunTable.call_at_open.Given as goal

abbrev pub ghosts-open_deciding : goal.ghosts-open_deciding
ghosts-open_deciding g a = record {
  roles = of_worker g.W.WorkerCall.before (log_in a.seat.now) ∷ [];
  made = λ _. made_by g.W.WorkerCall.before (g.W.WorkerCall.call a.live);
  change = λ _. change_by (g.W.WorkerCall.call a.live) (g.W.WorkerCall.after a.live);
}
