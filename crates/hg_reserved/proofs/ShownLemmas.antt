-- What a row shows after a read, a write, or an extension.
use Rattle.std.proofs.Common.{◌≡◌, ◌≢◌, ℕ, ◌+◌, ◌-◌, ◌<◌, ◌≤◌, inl, inr, List, [], ◌∷◌, ◌++◌}
use Rattle.std.proofs.Common.{length, arith, replicate, sym, ◌∙◌, refl}
use Rattle.std.specs.Prelude.{slice_index_or, slice_set, slice_range, take, drop}
use Rattle.std.proofs.lemmas.List.{length-append, length-replicate, length-set, set-append_left}
use Rattle.std.proofs.lemmas.List.{get_or_append_left, get_or-append_right, get_or-replicate}
use Rattle.std.proofs.lemmas.List.{length-take, length-drop, get_or-take, get_or-drop}
use Rattle.std.proofs.lemmas.List.{get_or_past, get_or_at, ext_get_or}
use Rattle.std.proofs.lemmas.List.{get_or-set_same, get_or-set_other}
use Rattle.std.proofs.lemmas.Bool.{cases_eq, cases_lt}
use Rattle.hg_reserved.specs.Shown.{shown}

-- as many values as there is room for
pub length-shown : {T : Type 0} (blank : T) (touched : List T) (room : ℕ) → length touched ≤ room
    → length (shown blank touched room) ≡ room
length-shown blank touched room fits =
    omega (
      arith,
      length-append touched (replicate (room - length touched) blank),
      length-replicate (room - length touched) blank,
      fits,
    )

-- blanks read as a place that there isn't
blanks-read : {T : Type 0} (blank : T) (count at : ℕ)
    → slice_index_or (replicate count blank) at blank ≡ blank
blanks-read blank count at =
    elim (cases_lt at count) [
      | inl below ↦ get_or-replicate count at blank blank below
      | inr past ↦ get_or_past (replicate count blank) at blank
          (omega (arith, length-replicate count blank, past))
    ]

-- blanks behind values are read as places that there aren't
read-behind : {T : Type 0} (blank : T) (touched : List T) (count at : ℕ)
    → slice_index_or (touched ++ replicate count blank) at blank ≡ slice_index_or touched at blank
read-behind blank touched count at =
    elim (cases_lt at (length touched)) [
      | inl below ↦ get_or_append_left touched (replicate count blank) blank at below
      | inr past ↦ get_or-append_right touched (replicate count blank) (length touched) at blank
          refl past
          ∙ blanks-read blank count (at - length touched)
          ∙ sym (get_or_past touched at blank past)
    ]

-- a read sees the touched values alone
pub shown-read : {T : Type 0} (blank : T) (touched : List T) (room at : ℕ)
    → slice_index_or (shown blank touched room) at blank ≡ slice_index_or touched at blank
shown-read blank touched room at = read-behind blank touched (room - length touched) at

-- a write to a touched value
pub shown-set : {T : Type 0} (blank : T) (touched : List T) (room at : ℕ) (value : T)
    → at < length touched
    → shown blank (slice_set touched at value) room ≡ slice_set (shown blank touched room) at value
shown-set blank touched room at value below =
    rw (length-set touched at value)
    (sym (set-append_left touched (replicate (room - length touched) blank) at value below))

-- the values up to one behind all that were touched
abbrev pub extended : {T : Type 0} → T → List T → ℕ → T → List T
extended blank touched at value =
    (touched ++ replicate (at - length touched) blank) ++ value ∷ []

pub length-extended : {T : Type 0} (blank : T) (touched : List T) (at : ℕ) (value : T)
    → length touched ≤ at → length (extended blank touched at value) ≡ at + 1
length-extended blank touched at value behind =
    omega (
      arith,
      behind,
      length-append (touched ++ replicate (at - length touched) blank) (value ∷ []),
      length-append touched (replicate (at - length touched) blank),
      length-replicate (at - length touched) blank,
    )

-- a read of what was extended
extended-read : {T : Type 0} (blank : T) (touched : List T) (at : ℕ) (value : T) (k : ℕ)
    → length touched ≤ at → k ≢ at
    → slice_index_or (extended blank touched at value) k blank ≡ slice_index_or touched k blank
extended-read blank touched at value k behind other =
    let front : List _ = touched ++ replicate (at - length touched) blank in
    let all : length front ≡ at = omega (
      arith,
      behind,
      length-append touched (replicate (at - length touched) blank),
      length-replicate (at - length touched) blank,
    ) in
    elim (cases_lt k at) [
      | inl below ↦ get_or_append_left front (value ∷ []) blank k (omega (arith, below, all))
          ∙ read-behind blank touched (at - length touched) k
      | inr past ↦ get_or_past (extended blank touched at value) k blank
          (omega (arith, past, other, length-extended blank touched at value behind))
          ∙ sym (get_or_past touched k blank (omega (arith, past, behind)))
    ]

-- a write behind all that was touched
pub shown-extended : {T : Type 0} (blank : T) (touched : List T) (room at : ℕ) (value : T)
    → length touched ≤ at → at < room
    → shown blank (extended blank touched at value) room
    ≡ slice_set (shown blank touched room) at value
shown-extended blank touched room at value behind inside =
    let more : List _ = extended blank touched at value in
    let count : length more ≡ at + 1 = length-extended blank touched at value behind in
    let left : length (shown blank more room) ≡ room =
    length-shown blank more room (omega (arith, count, inside)) in
    let right : length (shown blank touched room) ≡ room =
    length-shown blank touched room (omega (arith, behind, inside)) in
    ext_get_or blank (shown blank more room) (slice_set (shown blank touched room) at value)
    (left ∙ sym (length-set (shown blank touched room) at value ∙ right))
    (λ k l.
    shown-read blank more room k
    ∙ elim (cases_eq k at) [
      | inl e ↦ rw e
          (get_or_at (touched ++ replicate (at - length touched) blank) value [] blank at
          (omega (
            arith,
            behind,
            count,
            length-append
                (touched ++ replicate (at - length touched) blank) (value ∷ []),
          ))
          ∙ sym (get_or-set_same (shown blank touched room) at value blank
          (omega (arith, right, inside))))
      | inr ne ↦ extended-read blank touched at value k behind ne
          ∙ sym (get_or-set_other (shown blank touched room) at k value blank ne
          ∙ shown-read blank touched room k)
    ])

-- a list whose values are all blank
pub all-blank : {T : Type 0} (blank : T) (values : List T)
    → ((k : ℕ) → k < length values → slice_index_or values k blank ≡ blank)
    → values ≡ replicate (length values) blank
all-blank blank values each =
    ext_get_or blank values (replicate (length values) blank)
    (sym (length-replicate (length values) blank))
    (λ k l. each k l ∙ sym (blanks-read blank (length values) k))

-- a list that has the values of a range of another
pub range-copied : {T : Type 0} (blank : T) (values copied : List T) (from : ℕ)
    → from + length copied ≤ length values
    → ((k : ℕ) → k < length copied
    → slice_index_or copied k blank ≡ slice_index_or values (from + k) blank)
    → copied ≡ slice_range values from (from + length copied)
range-copied blank values copied from inside each =
    let rest : List _ = drop from values in
    let count : ℕ = from + length copied - from in
    ext_get_or blank copied (take count rest)
    (omega (arith, inside, length-take count rest, length-drop from values))
    (λ k l. each k l
    ∙ sym (get_or-take count rest k blank (omega (arith, l)) ∙ get_or-drop from values k blank))
