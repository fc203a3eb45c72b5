-- The words of a block, as a range of the words of its segment.
use Rattle.std.proofs.Common.{◌≡◌, ℕ, ◌+◌, ◌-◌, ◌<◌, ◌≤◌, inl, inr, List}
use Rattle.std.proofs.Common.{length, slice_index, slice_set, drop, replicate, sym, ◌∙◌, arith}
use Rattle.std.proofs.Common.{get_or-set_other, get_or-set_same}
use Rattle.std.specs.Prelude.{slice_range}
use Rattle.std.proofs.lemmas.List.{get_or-take, get_or-drop, length-take, length-drop, length-set}
use Rattle.std.proofs.lemmas.List.{length-replicate, get_or-replicate, ext_get_or}
use Rattle.std.proofs.lemmas.Bool.{cases_eq}

-- the range of so many words from one on
abbrev pub block_of : List ℕ → ℕ → ℕ → List ℕ
block_of words from count = slice_range words from (from + count)

pub block_of-read : (words : List ℕ) (from count i : ℕ) → i < count
    → slice_index (block_of words from count) i ≡ slice_index words (from + i)
block_of-read words from count i lt =
    get_or-take (from + count - from) (drop from words) i 0 (omega arith) ∙ get_or-drop from words i 0

pub length-block_of : (words : List ℕ) (from count : ℕ) → from + count ≤ length words
    → length (block_of words from count) ≡ count
length-block_of words from count inside =
    omega (arith, length-take (from + count - from) (drop from words), length-drop from words)

-- words that are the same in the range
pub block_of-same : (words other : List ℕ) (from count : ℕ)
    → from + count ≤ length words → from + count ≤ length other
    → ((at : ℕ) → from ≤ at → at < from + count → slice_index other at ≡ slice_index words at)
    → block_of other from count ≡ block_of words from count
block_of-same words other from count inside within same =
    ext_get_or 0 (block_of other from count) (block_of words from count)
    (length-block_of other from count within ∙ sym (length-block_of words from count inside))
    (λ i lt.
    let below : i < count = omega (arith, lt, length-block_of other from count within) in
    block_of-read other from count i below
    ∙ same (from + i) (omega arith) (omega arith)
    ∙ sym (block_of-read words from count i below))

-- words that are zero in the range
pub block_of-zero : (words : List ℕ) (from count : ℕ) → from + count ≤ length words
    → ((at : ℕ) → from ≤ at → at < from + count → slice_index words at ≡ 0)
    → block_of words from count ≡ replicate count 0
block_of-zero words from count inside zero =
    ext_get_or 0 (block_of words from count) (replicate count 0)
    (length-block_of words from count inside ∙ sym (length-replicate count 0))
    (λ i lt.
    let below : i < count = omega (arith, lt, length-block_of words from count inside) in
    block_of-read words from count i below
    ∙ zero (from + i) (omega arith) (omega arith)
    ∙ sym (get_or-replicate count i 0 0 below))

-- a write inside the range
pub block_of-set : (words : List ℕ) (from count i value : ℕ)
    → from + count ≤ length words → i < count
    → block_of (slice_set words (from + i) value) from count ≡ slice_set (block_of words from count) i value
block_of-set words from count i value inside lt =
    let within : from + count ≤ length (slice_set words (from + i) value) =
    omega (arith, length-set words (from + i) value) in
    let room : i < length (block_of words from count) =
    omega (arith, length-block_of words from count inside) in
    ext_get_or 0 (block_of (slice_set words (from + i) value) from count)
    (slice_set (block_of words from count) i value)
    (length-block_of (slice_set words (from + i) value) from count within
    ∙ sym (length-set (block_of words from count) i value ∙ length-block_of words from count inside))
    (λ k l.
    let below : k < count =
    omega (arith, l, length-block_of (slice_set words (from + i) value) from count within) in
    block_of-read (slice_set words (from + i) value) from count k below
    ∙ elim (cases_eq k i) [
      | inl e ↦ rw e (get_or-set_same words (from + i) value 0 (omega arith)
          ∙ sym (get_or-set_same (block_of words from count) i value 0 room))
      | inr ne ↦ get_or-set_other words (from + i) (from + k) value 0 (λ e. ne (omega (arith, e)))
          ∙ sym (get_or-set_other (block_of words from count) i k value 0 ne
          ∙ block_of-read words from count k below)
    ])
