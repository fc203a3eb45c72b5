-- Where names are found.
use Rattle.std.specs.Prelude.{◌≡◌, ◌⊎◌, ℕ, ◌-◌, List, [], Option, Some, map, length}
use Rattle.std.specs.Prelude.{slice_index_or, slice_get, bit_and, Contains}
use Rattle.std.specs.Borrow.{Bor}
use Rattle.std.specs.BTreeMap.{get_by}
use Rattle.std.specs.Cmp.Lexicographic.{slice_cmp}
use Rattle.std.specs.Ordering.{nat_cmp}
use Rattle.hg_labels.specs.Hash.{hash_of}
use Rattle.hg_labels.specs.Slots.{slot_of, IsFull}
use Rattle.hg_labels.specs.declared.index.Index.{Index}
use Rattle.hg_labels.specs.declared.slot.Slot.{Slot}

-- the names' bytes
abbrev pub texts : List (Bor (List ℕ)) → List (List ℕ)
texts names = map (λ name. name.now) names

-- the name stands at that number, from 0
abbrev pub StandsAt : List (List ℕ) → ℕ → List ℕ → Type 0
StandsAt names number name = slice_get names number ≡ Some name

-- the bucket that a hash gives
abbrev pub home : List (List Slot) → ℕ → List Slot
home buckets hash = slice_index_or buckets (bit_and hash (length buckets - 1)) []

-- the number that a spilled name has
abbrev pub spilled_at : Index → List ℕ → Option ℕ
spilled_at index name = get_by (λ known. slice_cmp nat_cmp name known.now) index.spilled

-- a bucket has the number, or it is full and the name is spilled
abbrev pub Finds : Index → ℕ → List ℕ → ℕ → Type 0
Finds index hash name number =
    Contains (home index.buckets.items hash) (slot_of hash number)
    ⊎ (IsFull (home index.buckets.items hash) × (spilled_at index name ≡ Some number))

-- each name is found, where it stands among the names
pub record IsIndexOf (index : Index) (names : List (List ℕ)) : Type 0 where
  pub found : (number : ℕ) (name : List ℕ) → StandsAt names number name
      → Finds index (hash_of name) name number

-- no name stands at two places
pub record IsEachOnce (names : List (List ℕ)) : Type 0 where
  pub same : (place other : ℕ) (name : List ℕ) → StandsAt names place name
      → StandsAt names other name → place ≡ other

-- each name stands once, and is found there
pub record IsKept (index : Index) (names : List (List ℕ)) : Type 0 where
  pub once : IsEachOnce names
  pub found : IsIndexOf index names
