-- Values that are written over a list one after another.
use Rattle.std.proofs.Common.{◌≡◌, ◌≢◌, ℕ, ◌+◌, ◌-◌, ◌<◌, ◌≤◌, ◌⊎◌, inl, inr, List, [], ◌∷◌}
use Rattle.std.proofs.Common.{zero, suc, length, arith, sym, ◌∙◌, refl, ap, ⊎_elim}
use Rattle.std.specs.Prelude.{slice_index_or, slice_set}
use Rattle.std.proofs.lemmas.List.{length-set, get_or-set_same, get_or-set_other, ext_get_or}
use Rattle.std.proofs.lemmas.Bool.{cases_lt}
use Rattle.hg_reserved.specs.Shown.{shown}
use Rattle.hg_reserved.specs.Overlaid.{overlaid}
use Rattle.hg_reserved.proofs.ShownLemmas.{shown-set, shown-extended, extended, length-extended}
use Rattle.hg_reserved.proofs.ShownLemmas.{length-shown}

pub length-overlaid : {T : Type 0} (old : List T) (from : ℕ) (values : List T)
    → length (overlaid old from values) ≡ length old
length-overlaid old from [] = refl
length-overlaid old from (v ∷ vs) =
    length-overlaid (slice_set old from v) (from + 1) vs ∙ length-set old from v

-- a place that none is written to
pub overlaid-others : {T : Type 0} (old : List T) (from : ℕ) (values : List T) (at : ℕ) (d : T)
    → (at < from) ⊎ (from + length values ≤ at)
    → slice_index_or (overlaid old from values) at d ≡ slice_index_or old at d
overlaid-others old from [] at d out = refl
overlaid-others old from (v ∷ vs) at d out =
    let behind : (at < from + 1) ⊎ (from + 1 + length vs ≤ at) =
    ⊎_elim (λ lt. inl (omega (arith, lt))) (λ ge. inr (omega (arith, ge))) out in
    let ne : at ≢ from =
    λ e. ⊎_elim (λ lt. absurd (omega (arith, lt, e))) (λ ge. absurd (omega (arith, ge, e))) out in
    overlaid-others (slice_set old from v) (from + 1) vs at d behind
    ∙ get_or-set_other old from at v d ne

-- the places that are written to
pub overlaid-written : {T : Type 0} (old : List T) (from : ℕ) (values : List T) (k : ℕ) (d : T)
    → from + length values ≤ length old → k < length values
    → slice_index_or (overlaid old from values) (from + k) d ≡ slice_index_or values k d
overlaid-written old from [] k d inside lt = absurd (omega (arith, lt))
overlaid-written old from (v ∷ vs) zero d inside lt =
    overlaid-others (slice_set old from v) (from + 1) vs (from + 0) d (inl (omega arith))
    ∙ ap (λ (n : ℕ). slice_index_or (slice_set old from v) n d) (omega arith)
    ∙ get_or-set_same old from v d (omega (arith, inside))
overlaid-written old from (v ∷ vs) (suc k) d inside lt =
    ap (λ (n : ℕ). slice_index_or (overlaid (slice_set old from v) (from + 1) vs) n d)
    (omega arith)
    ∙ overlaid-written (slice_set old from v) (from + 1) vs k d
    (omega (arith, inside, length-set old from v)) (omega (arith, lt))

-- a list that has others' values at the places from one on, and its own at each other
pub are-overlaid : {T : Type 0} (blank : T) (old new : List T) (from : ℕ) (values : List T)
    → length new ≡ length old → from + length values ≤ length old
    → ((k : ℕ) → k < length values
    → slice_index_or new (from + k) blank ≡ slice_index_or values k blank)
    → ((at : ℕ) → (at < from) ⊎ (from + length values ≤ at)
    → slice_index_or new at blank ≡ slice_index_or old at blank)
    → new ≡ overlaid old from values
are-overlaid blank old new from values all inside written others =
    ext_get_or blank new (overlaid old from values) (all ∙ sym (length-overlaid old from values))
    (λ at l. elim (cases_lt at from) [
      | inl before ↦ others at (inl before)
          ∙ sym (overlaid-others old from values at blank (inl before))
      | inr behind ↦ elim (cases_lt at (from + length values)) [
        | inl within ↦
            let there : from + (at - from) ≡ at = omega arith in
            let lt : at - from < length values = omega arith in
            rw (← there) (written (at - from) lt
            ∙ sym (overlaid-written old from values (at - from) blank inside lt))
        | inr past ↦ others at (inr past)
            ∙ sym (overlaid-others old from values at blank (inr past))
      ]
    ])

-- a value that the others are written over
pub overlaid-covers : {T : Type 0} (blank : T) (old : List T) (at : ℕ) (value : T) (from : ℕ)
    (values : List T) → from ≤ at → at < from + length values
    → from + length values ≤ length old
    → overlaid (slice_set old at value) from values ≡ overlaid old from values
overlaid-covers blank old at value from values low high inside =
    let other : List _ = slice_set old at value in
    are-overlaid blank old (overlaid other from values) from values
    (length-overlaid other from values ∙ length-set old at value) inside
    (λ k l. overlaid-written other from values k blank
    (omega (arith, inside, length-set old at value)) l)
    (λ k out. overlaid-others other from values k blank out
    ∙ get_or-set_other old at k value blank
    (λ e. ⊎_elim (λ lt. absurd (omega (arith, lt, e, low)))
    (λ ge. absurd (omega (arith, ge, e, high))) out))

-- what a row shows after a write to values that were touched
pub shown-overlaid : {T : Type 0} (blank : T) (touched : List T) (room from : ℕ) (values : List T)
    → from + length values ≤ length touched
    → shown blank (overlaid touched from values) room
    ≡ overlaid (shown blank touched room) from values
shown-overlaid blank touched room from [] inside = refl
shown-overlaid blank touched room from (v ∷ vs) inside =
    shown-overlaid blank (slice_set touched from v) room (from + 1) vs
    (omega (arith, inside, length-set touched from v))
    ∙ ap (λ l. overlaid l (from + 1) vs)
    (shown-set blank touched room from v (omega (arith, inside)))

-- what a row shows whose values from a place on are others'
pub shown-replaced : {T : Type 0} (blank : T) (touched new : List T) (room from : ℕ)
    (values : List T) → length new ≡ length touched → from + length values ≤ length touched
    → ((k : ℕ) → k < length values
    → slice_index_or new (from + k) blank ≡ slice_index_or values k blank)
    → ((at : ℕ) → (at < from) ⊎ (from + length values ≤ at)
    → slice_index_or new at blank ≡ slice_index_or touched at blank)
    → shown blank new room ≡ overlaid (shown blank touched room) from values
shown-replaced blank touched new room from values all inside written others =
    ap (λ l. shown blank l room)
    (are-overlaid blank touched new from values all inside written others)
    ∙ shown-overlaid blank touched room from values inside

-- the same, where the last of these places is the first that was touched
pub shown-appended : {T : Type 0} (blank : T) (touched new : List T) (room from last : ℕ)
    (values : List T) → length new ≡ last + 1 → from + length values ≡ last + 1
    → length touched ≤ last → from ≤ last → last < room
    → ((k : ℕ) → k < length values
    → slice_index_or new (from + k) blank ≡ slice_index_or values k blank)
    → ((at : ℕ) → (at < from) ⊎ (from + length values ≤ at)
    → slice_index_or new at blank ≡ slice_index_or (extended blank touched last blank) at blank)
    → shown blank new room ≡ overlaid (shown blank touched room) from values
shown-appended blank touched new room from last values all end behind low inside written others =
    let more : List _ = extended blank touched last blank in
    let count : length more ≡ last + 1 = length-extended blank touched last blank behind in
    shown-replaced blank more new room from values (all ∙ sym count)
    (omega (arith, end, count)) written others
    ∙ ap (λ l. overlaid l from values) (shown-extended blank touched room last blank behind inside)
    ∙ overlaid-covers blank (shown blank touched room) last blank from values low
    (omega (arith, end))
    (omega (arith, end, inside, length-shown blank touched room (omega (arith, behind, inside))))
