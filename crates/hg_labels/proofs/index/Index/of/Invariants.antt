use Rattle.std.proofs.Common.{◌≡◌, ◌<◌, ℕ, List, Some, map, slice_get}
use Rattle.hg_labels.specs.Hash.{hash_of}
use Rattle.hg_labels.specs.Indexes.{Finds}
use Rattle.hg_labels.proofs.index.Index.of.Given as goal

-- the names so far are found
abbrev pub invariant-loop-number : goal.invariant-loop-number
invariant-loop-number l =
    (place : ℕ) (name : List ℕ) → place < l.number
    → slice_get (map (λ known. known.now) l.names) place ≡ Some name
    → Finds l.index (hash_of name) name place
