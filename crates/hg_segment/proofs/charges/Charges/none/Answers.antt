use Rattle.std.proofs.Common.{◌≡◌, ℕ, replicate, slice_index, inl, inr, arith}
use Rattle.std.proofs.lemmas.Bool.{cases_lt}
use Rattle.std.proofs.lemmas.List.{length-replicate, get_or-replicate, get_or_past}
use Rattle.hg_segment.proofs.charges.Charges.none.Goals as goal

-- each of so many zeros is zero, and so is what is read past them
zeros : (n i : ℕ) → slice_index (replicate n 0) i ≡ 0
zeros n i = elim (cases_lt i n) [
  | inl lt ↦ get_or-replicate n i 0 0 lt
  | inr ge ↦ get_or_past (replicate n 0) i 0 (omega (arith, length-replicate {A = ℕ} n 0))
]

pub returns-clause-none : goal.returns-clause-none
returns-clause-none c tenant = rw c.in_ok-by_tenant.ensures.ok (zeros 64 tenant)
