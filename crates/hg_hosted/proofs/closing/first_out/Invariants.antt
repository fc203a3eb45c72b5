use Rattle.std.proofs.Common.{◌≡◌, ℕ, ◌<◌, true}
use Rattle.hg_hosted.specs.Coming.{has_come}
use Rattle.hg_hosted.proofs.closing.first_out.Given as goal

abbrev pub invariant-loop-number : goal.invariant-loop-number
invariant-loop-number l = (other : ℕ) → other < l.number → has_come l.came other ≡ true
