-- The words and records of cells, of which one is set.
use Rattle.std.proofs.Common.{◌≡◌, ℕ, ◌+◌, ◌-◌, ◌*◌, ◌/◌, ◌%◌, ◌<◌, ◌≤◌, if◌then◌else◌, inl, inr}
use Rattle.std.proofs.Common.{List, length, slice_index, slice_set, get_or, sym, ap, ◌∙◌, arith}
use Rattle.std.proofs.Common.{zero-add}
use Rattle.std.proofs.lemmas.Bool.{cases_eq, cases_lt, lt-ltb, le-ltb}
use Rattle.std.proofs.lemmas.Grind.{get_or-set_at}
use Rattle.std.proofs.lemmas.List.{length-set, get_or-set_other, get_or_past, ext_get_or}
use Rattle.std.proofs.lemmas.List.FromFn.{get_or-map-range_with_len, length-map-range_with_len}
use Rattle.hg_place.specs.declared.standing.Standing.{Standing}
use Rattle.hg_place.specs.declared.standing.Standing.TheVariants.{Home}
use Rattle.hg_place.specs.Cells.{spot_of, seen}
use Rattle.hg_place.specs.Lives.{IsSlotWord}
use Rattle.hg_place.specs.Standings.{Fits, standing_at}

-- the spot of one of the first places of its page, and of another
spot_first : (at : ℕ) → at % 512 < 64 → spot_of at ≡ at / 512 * 64 + at % 512
spot_first at first =
    ap (λ is. if is then at / 512 * 64 + at % 512 else 1024 + at / 512 * 448 + (at % 512 - 64))
    (lt-ltb (at % 512) 64 first)

spot_later : (at : ℕ) → 64 ≤ at % 512 → spot_of at ≡ 1024 + at / 512 * 448 + (at % 512 - 64)
spot_later at later =
    ap (λ is. if is then at / 512 * 64 + at % 512 else 1024 + at / 512 * 448 + (at % 512 - 64))
    (le-ltb (at % 512) 64 later)

-- no two places have one spot
apart : (a b : ℕ) → a < 8192 → b < 8192 → spot_of a ≡ spot_of b → a ≡ b
apart a b below under same = elim (cases_lt (a % 512) 64) as (λ _. a ≡ b) [
  | inl one ↦ elim (cases_lt (b % 512) 64) as (λ _. a ≡ b) [
    | inl other ↦ (let at = spot_first a one in let by = spot_first b other in omega arith)
    | inr other ↦ (let at = spot_first a one in let by = spot_later b other in omega arith)
  ]
  | inr one ↦ elim (cases_lt (b % 512) 64) as (λ _. a ≡ b) [
    | inl other ↦ (let at = spot_later a one in let by = spot_first b other in omega arith)
    | inr other ↦ (let at = spot_later a one in let by = spot_later b other in omega arith)
  ]
]

inside : (at : ℕ) → at < 8192 → spot_of at < 8192
inside at below = elim (cases_lt (at % 512) 64) as (λ _. spot_of at < 8192) [
  | inl first ↦ (let is = spot_first at first in omega arith)
  | inr later ↦ (let is = spot_later at later in omega arith)
]

module _ {X : Type 0} (says : ℕ → X) (cells : List ℕ) where
  -- what the cell of a place says
  abbrev cell_says : ℕ → X
  cell_says at = says (slice_index cells (spot_of at))

  pub seen_all : length (seen says cells) ≡ 8192
  unfolding seen
  seen_all = length-map-range_with_len cell_says 0 8192

  pub seen_at : (at : ℕ) (d : X) → at < 8192
      → get_or (seen says cells) at d ≡ says (slice_index cells (spot_of at))
  unfolding seen
  seen_at at d below = get_or-map-range_with_len cell_says 0 8192 at at d below (zero-add at)

  -- where nothing was written
  pub seen_blank : ((at : ℕ) → slice_index cells at ≡ 0) → (at : ℕ)
      → get_or (seen says cells) at (says 0) ≡ says 0
  seen_blank blank at =
      elim (cases_lt at 8192) as (λ _. get_or (seen says cells) at (says 0) ≡ says 0) [
        | inl below ↦ seen_at at (says 0) below ∙ ap says (blank (spot_of at))
        | inr past ↦
            get_or_past (seen says cells) at (says 0) (let all = seen_all in omega arith)
      ]

module _ {X : Type 0} (says : ℕ → X) (cells : List ℕ) (n cell : ℕ) (value d : X) (below : n < 8192)
    (all : length cells ≡ 8192) (is : says cell ≡ value) where
  abbrev set_cells : List ℕ
  set_cells = slice_set cells (spot_of n) cell

  abbrev SeenAt : ℕ → Type 0
  SeenAt at = get_or (seen says set_cells) at d ≡ get_or (slice_set (seen says cells) n value) at d

  one_seen : (at : ℕ) → at < 8192 → SeenAt at
  one_seen at under = elim (cases_eq at n) as (λ _. SeenAt at) [
    | inl same ↦
        seen_at says set_cells at d under
        ∙ ap says (get_or-set_at cells (spot_of n) (spot_of at) cell 0 (ap spot_of same)
        (let low = inside n below in omega arith))
        ∙ is ∙ sym (get_or-set_at (seen says cells) n at value d same
        (let long = seen_all says cells in omega arith))
    | inr other ↦
        seen_at says set_cells at d under
        ∙ ap says (get_or-set_other cells (spot_of n) (spot_of at) cell 0
        (λ one. other (apart at n under below one)))
        ∙ sym (seen_at says cells at d under)
        ∙ sym (get_or-set_other (seen says cells) n at value d other)
  ]

  -- a cell that is set is one word, or one record, that is set
  pub seen_with : seen says set_cells ≡ slice_set (seen says cells) n value
  seen_with = ext_get_or d (seen says set_cells) (slice_set (seen says cells) n value)
      (seen_all says set_cells ∙ sym (length-set (seen says cells) n value ∙ seen_all says cells))
      (λ at under. one_seen at (let long = seen_all says set_cells in omega arith))

-- each word is a slot word that fits its record
abbrev pub AreFit : List ℕ → List Standing → Type 0
AreFit words records =
    (at : ℕ) → at < 8192
    → IsSlotWord (slice_index words at) × Fits (standing_at records at) (slice_index words at)

pub fit_with : (words : List ℕ) (records : List Standing) (n word : ℕ) (standing : Standing)
    → n < length words → n < length records → IsSlotWord word → Fits standing word
    → AreFit words records → AreFit (slice_set words n word) (slice_set records n standing)
fit_with words records n word standing in_words in_records slot fits old at below =
    elim (cases_eq at n) as (λ _. IsSlotWord (slice_index (slice_set words n word) at)
    × Fits (standing_at (slice_set records n standing) at)
    (slice_index (slice_set words n word) at)) [
      | inl same ↦ rw (
        get_or-set_at words n at word 0 same in_words,
        get_or-set_at records n at standing (Home 0) same in_records,
      ) (slot, fits)
      | inr other ↦ rw (
        get_or-set_other words n at word 0 other,
        get_or-set_other records n at standing (Home 0) other,
      ) (old at below)
    ]

-- a place's cell is set, by its spot
pub seen_then : {X : Type 0} (says : ℕ → X) (d : X) (cells new : List ℕ) (spot n cell : ℕ)
    (value : X)
    → new ≡ slice_set cells spot cell → spot ≡ spot_of n
    → n < 8192 → length cells ≡ 8192 → says cell ≡ value
    → seen says new ≡ slice_set (seen says cells) n value
seen_then says d cells new spot n cell value set stands below all is =
    ap (seen says) (set ∙ ap (λ at. slice_set cells at cell) stands)
    ∙ seen_with says cells n cell value d below all is
