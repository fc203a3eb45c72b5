use Rattle.std.proofs.Common.{◌≡◌, ℕ, ◌+◌, Some, length, slice_get}
use Rattle.std.specs.Vec.Iter.{into_iter_items, into_iter_len}
use Rattle.hg_bank_service.specs.New.{IsNewWorker}
use Rattle.hg_bank_service.proofs.opening.bank_workers.Given as goal

-- those that are left come behind those that are made
abbrev pub invariant-loop-row : goal.invariant-loop-row
invariant-loop-row l = record {
  count : l.number ≡ length l.workers.items;
  all : length l.workers.items + into_iter_len l.row-iterator ≡ length l.fn.rows.items;
  left :
      (k : ℕ) (row : _) → slice_get (into_iter_items l.row-iterator) k ≡ Some row
      → slice_get l.fn.rows.items (length l.workers.items + k) ≡ Some row;
  new :
      (k : ℕ) (worker : _) → slice_get l.workers.items k ≡ Some worker → (row : _)
      → slice_get l.fn.rows.items k ≡ Some row
      → IsNewWorker l.policy k (length row.items) worker;
  has :
      (k : ℕ) (worker : _) → slice_get l.workers.items k ≡ Some worker → (row : _)
      → slice_get l.fn.rows.items k ≡ Some row → worker.workers.items ≡ row.items;
}
