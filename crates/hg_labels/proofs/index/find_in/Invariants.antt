use Rattle.std.proofs.Common.{◌≡◌, ◌≢◌, ◌+◌, ℕ, ◌<◌, map, Some, slice_get, slice_index_or}
use Rattle.hg_labels.proofs.index.find_in.Given as goal
use Rattle.hg_labels.specs.declared.slot.Slot.{Slot}

-- no slot before this one has the number of the name
abbrev pub invariant-loop-slot : goal.invariant-loop-slot
invariant-loop-slot l =
    (number place : ℕ) (d : Slot) → slice_get (map (λ known. known.now) l.names) number ≡ Some l.name
    → place < l.slot-index → slice_index_or l.bucket place d ≢ record { tag = l.tag; number = number + 1 }
