use Rattle.std.specs.Prelude.{[], ◌∷◌, length}
use Rattle.hg_roles.specs.Joined.{both_called}
use Rattle.hg_roles.specs.Roles.{of_worker}
use Rattle.hg_run_table.specs.Calls.{log_in}
use Rattle.hg_run_table.specs.Reshaping.{front}
use Rattle.hg_run_table.proofs.table.RunTable.call_together.Given as goal

abbrev pub ghosts-decide : goal.ghosts-decide
ghosts-decide g a = record {
  roles = of_worker g.W.OwnCall.before (log_in a.seat.now) ∷ g.P.OtherPart.role ∷ [];
  made = λ _. (g.W.OwnCall.before.worker, g.W.OwnCall.call) ∷ [];
  change = λ _. both_called g.W.OwnCall.after g.P.OtherPart.left g.W.OwnCall.call;
}

abbrev pub ghosts-split : goal.ghosts-split
ghosts-split g a = record { stay = 1; lives = front (length a.seat.now.seat.me.0.lives) }
