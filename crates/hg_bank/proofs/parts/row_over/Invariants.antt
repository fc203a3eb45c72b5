use Rattle.std.proofs.Common.{◌≡◌, ◌<◌, ℕ, slice_index, take}
use Rattle.hg_bank.specs.State.{charge_over}
use Rattle.hg_bank.proofs.parts.row_over.Given as goal

-- what counts over the cores so far
abbrev pub invariant-loop-core : goal.invariant-loop-core
invariant-loop-core l = (t : ℕ) → t < l.tenants
    → slice_index l.row t ≡ charge_over (take l.core-index l.cores) l.worker t
