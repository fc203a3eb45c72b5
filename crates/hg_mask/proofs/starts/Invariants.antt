use Rattle.std.proofs.Common.{◌≡◌, ℕ, ◌↔◌}
use Rattle.std.specs.Int.{bit_at}
use Rattle.hg_mask.specs.Marks.{IsRunOf}
use Rattle.hg_mask.proofs.starts.Given as goal

abbrev pub invariant-loop-ahead : goal.invariant-loop-ahead
invariant-loop-ahead l = (page : ℕ) → (bit_at l.starts page ≡ 1) ↔ IsRunOf l.fn.marks l.ahead page
