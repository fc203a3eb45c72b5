use Rattle.std.proofs.Common.{◌≡◌, ℕ, ◌+◌, ◌<◌, false}
use Rattle.hg_core.specs.Kinds.{is_kind}
use Rattle.hg_core.proofs.serving.Core.first_of.Given as goal

abbrev pub invariant-loop-at : goal.invariant-loop-at
invariant-loop-at l = (n : ℕ) → n < l.at → is_kind l.self.state l.kind (l.first + n) ≡ false
