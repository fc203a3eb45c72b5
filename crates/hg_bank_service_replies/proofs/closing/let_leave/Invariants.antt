use Rattle.std.proofs.Common.{◌≡◌, ℕ, ◌<◌, ◌≤◌, Some, length, slice_get}
use Rattle.hg_bank_service_replies.specs.Closing.{PlaceLeaves}
use Rattle.hg_bank_service_replies.proofs.closing.let_leave.Given as goal

-- those below have left or stay, and those from there on are as they were
abbrev pub invariant-loop-at : goal.invariant-loop-at
invariant-loop-at l = record {
  all : length l.workers.items ≡ length l.fn.workers.items;
  each :
      (k : ℕ) → k < l.at → (was is : _) → slice_get l.fn.workers.items k ≡ Some was
      → slice_get l.workers.items k ≡ Some is → PlaceLeaves was is;
  rest : (k : ℕ) → l.at ≤ k → slice_get l.workers.items k ≡ slice_get l.fn.workers.items k;
}
