use Rattle.std.proofs.Common.{◌≡◌, ℕ, ◌+◌, Some, length, slice_get}
use Rattle.std.specs.Vec.Iter.{into_iter_items, into_iter_len}
use Rattle.hg_bank_service.proofs.Dealings.{AreDealing}
use Rattle.hg_bank_service.proofs.opening.deal.Given as goal

-- those that are left come behind those that were dealt
abbrev pub invariant-loop-worker : goal.invariant-loop-worker
invariant-loop-worker l = record {
  dealing : AreDealing l.fn.workers.items l.number l.fn.rows.items l.rows.items;
  count : l.number + into_iter_len l.worker-iterator ≡ length l.fn.workers.items;
  left :
      (k : ℕ) (worker : _) → slice_get (into_iter_items l.worker-iterator) k ≡ Some worker
      → slice_get l.fn.workers.items (l.number + k) ≡ Some worker;
}
