-- What abandoning a segment is in the state of a core.
use Rattle.std.specs.Prelude.{◌≡◌, ◌≢◌, ℕ, ◌<◌, List, [], ◌∷◌, ◌++◌, length, Some, None, find}
use Rattle.std.specs.Prelude.{slice_set}
use Rattle.hg_machine.specs.Changes.{abandoned}
use Rattle.hg_agreement.specs.Parts.{Plain, Parts, is_of, heap_at, state_of, IsSorted}

-- the parts with this heap for the worker, and one more orphan
abbrev pub with_orphan : Parts → ℕ → List Plain → Plain → Parts
with_orphan parts worker heap one = record parts {
  heaps = slice_set parts.heaps worker heap;
  orphans = parts.orphans ++ one ∷ [];
}

-- the segment stands in the worker's heap and not in the pool; the heap that comes in its place has
-- all others, and not this one
pub record IsLetGo (parts : Parts) (worker : ℕ) (heap : List Plain) (one : Plain) : Type 0 where
  pub worker_below : worker < length parts.heaps
  pub there : find (is_of one.holding.number) (heap_at parts worker) ≡ Some one
  pub unpooled : find (is_of one.holding.number) (parts.orphans ++ parts.fresh) ≡ None
  pub gone : find (is_of one.holding.number) heap ≡ None
  pub others :
      (segment : ℕ) → segment ≢ one.holding.number
      → find (is_of segment) heap ≡ find (is_of segment) (heap_at parts worker)

-- then the segment is the last orphan, and nothing else has changed
abbrev pub LetGoIsAbandoned : Type 0
LetGoIsAbandoned =
    (parts : Parts) (worker : ℕ) (heap : List Plain) (one : Plain) → IsSorted parts
    → IsLetGo parts worker heap one
    → state_of (with_orphan parts worker heap one)
    ≡ abandoned (state_of parts) one.holding.number
