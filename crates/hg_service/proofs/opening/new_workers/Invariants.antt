use Rattle.std.proofs.Common.{◌≡◌, ◌+◌, All, vec_len}
use Rattle.hg_table.specs.Seats.{KnowsNothing, part_on}
use Rattle.hg_service.specs.New.{AreNew}
use Rattle.hg_service.proofs.opening.new_workers.Given as goal

-- as many seats are left as there are workers still
abbrev pub invariant-loop-number : goal.invariant-loop-number
invariant-loop-number g l = record {
  left : vec_len l.seats + l.number ≡ l.policy.workers;
  nothing : All (λ seat. KnowsNothing (part_on seat.inner.badge)) l.seats.items;
  new : AreNew l.number l.workers.items;
}
