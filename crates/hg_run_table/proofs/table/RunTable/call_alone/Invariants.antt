use Rattle.std.specs.Prelude.{[], ◌∷◌}
use Rattle.hg_roles.specs.Deciding.{called}
use Rattle.hg_roles.specs.Roles.{of_worker}
use Rattle.hg_run_table.specs.Calls.{log_in}
use Rattle.hg_run_table.proofs.table.RunTable.call_alone.Given as goal

abbrev pub ghosts-decide : goal.ghosts-decide
ghosts-decide g a = record {
  roles = of_worker g.W.OwnCall.before (log_in a.seat.now) ∷ [];
  made = λ _. (g.W.OwnCall.before.worker, g.W.OwnCall.call) ∷ [];
  change = λ _. called g.W.OwnCall.after g.W.OwnCall.call;
}
