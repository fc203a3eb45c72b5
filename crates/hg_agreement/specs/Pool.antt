-- What a refill is in the state of a core.
use Rattle.std.specs.Prelude.{◌≡◌, ◌≢◌, ℕ, ◌+◌, ◌&&◌, ◌<◌, ◌≤◌, Bool, not, nat_lt, List, [], ◌∷◌}
use Rattle.std.specs.Prelude.{◌++◌, ⊤, length, Option, Some, is_none, option_map, find, filter}
use Rattle.std.specs.Prelude.{count_by, slice_get, slice_set, remove}
use Rattle.hg_place.specs.Words.{bit_of}
use Rattle.hg_machine.specs.Policy.{Policy, arena_of}
use Rattle.hg_machine.specs.Holders.{is_number, next_of}
use Rattle.hg_machine.specs.Changes.{adopted}
use Rattle.hg_agreement.specs.Parts.{Plain, Parts, is_of, heap_at, worker_of, state_of}
use Rattle.hg_agreement.specs.LeftPut.{numbers}

-- numbers that rise, from this one on
abbrev pub IsRising : ℕ → List ℕ → Type 0
IsRising low [] = ⊤
IsRising low (n ∷ rest) = (low ≤ n) × IsRising (n + 1) rest

-- one of the policy's segments, which no heap has
abbrev pub is_unheld : Parts → ℕ → Bool
is_unheld parts segment =
    is_none (worker_of parts segment) && nat_lt segment (length parts.policy.segments)

-- the pool has each segment that no heap has once, and no other; the fresh ones stand by number
pub record IsPooled (parts : Parts) : Type 0 where
  pub once :
      (segment : ℕ)
      → count_by (is_of segment) (parts.orphans ++ parts.fresh) ≡ bit_of (is_unheld parts segment)
  pub rising : IsRising 0 (numbers parts.fresh)

-- the segment is of the arena
abbrev pub is_for : Policy → ℕ → Plain → Bool
is_for policy arena one = is_number arena (arena_of policy one.holding.number)

-- the first of the pool that is of the arena: orphans by turn, then fresh ones by number
abbrev pub next_in : Parts → ℕ → Option Plain
next_in parts arena = find (is_for parts.policy arena) (parts.orphans ++ parts.fresh)

-- that is the one which a refill takes
abbrev pub NextIsFirst : Type 0
NextIsFirst =
    (parts : Parts) (arena : ℕ) → IsPooled parts
    → next_of (state_of parts) arena
    ≡ option_map (λ one. one.holding.number) (next_in parts arena)

abbrev pub without : ℕ → List Plain → List Plain
without segment plains = filter (λ one. not (is_of segment one)) plains

-- the parts with this heap for the worker, and without the segment in the pool
abbrev pub with_adopted : Parts → ℕ → List Plain → ℕ → Parts
with_adopted parts worker heap segment = record parts {
  heaps = slice_set parts.heaps worker heap;
  orphans = without segment parts.orphans;
  fresh = without segment parts.fresh;
}

-- the segment stands in the pool; the heap that comes in place of the worker's has it, and all
-- others as before
pub record IsTakenUp (parts : Parts) (worker : ℕ) (heap : List Plain) (one : Plain) : Type 0 where
  pub worker_below : worker < length parts.heaps
  pub there : find (is_of one.holding.number) (parts.orphans ++ parts.fresh) ≡ Some one
  pub came : find (is_of one.holding.number) heap ≡ Some one
  pub others :
      (segment : ℕ) → segment ≢ one.holding.number
      → find (is_of segment) heap ≡ find (is_of segment) (heap_at parts worker)

-- then the worker has adopted it, and nothing else has changed
abbrev pub TakenUpIsAdopted : Type 0
TakenUpIsAdopted =
    (parts : Parts) (worker : ℕ) (heap : List Plain) (one : Plain) → IsPooled parts
    → IsTakenUp parts worker heap one
    → state_of (with_adopted parts worker heap one.holding.number)
    ≡ adopted (state_of parts) worker one.holding.number

-- one that stands once in a list is gone when it is removed there, and where it doesn't stand all
-- are left
pub record RemovedIsWithout (plains : List Plain) (segment : ℕ) : Type 0 where
  pub once :
      (found : ℕ) (one : Plain) → slice_get plains found ≡ Some one
      → one.holding.number ≡ segment → count_by (is_of segment) plains ≤ 1
      → without segment plains ≡ remove plains found
  pub none : count_by (is_of segment) plains ≡ 0 → without segment plains ≡ plains

abbrev pub RemovingIsWithout : Type 0
RemovingIsWithout = (plains : List Plain) (segment : ℕ) → RemovedIsWithout plains segment
