use Rattle.std.specs.Prelude.{[], ◌∷◌}
use Rattle.hg_roles.specs.Roles.{of_worker}
use Rattle.hg_run_table.specs.Calls.{log_in}
use Rattle.hg_run_table.specs.Picks.{made_by, change_by}
use Rattle.hg_run_table.proofs.table.RunTable.call_at_close.Given as goal

abbrev pub ghosts-close_deciding : goal.ghosts-close_deciding
ghosts-close_deciding g a = record {
  roles = of_worker g.W.WorkerCall.before (log_in a.seat.now) ∷ [];
  made = λ word. made_by g.W.WorkerCall.before (g.W.WorkerCall.call word);
  change = λ word. change_by (g.W.WorkerCall.call word) (g.W.WorkerCall.after word);
}
