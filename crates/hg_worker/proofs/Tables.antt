-- The seats of a worker's segments are of its table, as segments come, change and go.
use Rattle.std.proofs.Common.{◌≡◌, ◌⊎◌, ℕ, ◌<◌, List, [], ◌∷◌, ◌++◌, map, length, get_or, refl, sym}
use Rattle.std.proofs.Common.{ap, subst, ◌∙◌, ⊎_elim, inl, inr, slice_get, slice_set, Some, arith}
use Rattle.std.specs.Prelude.{Contains}
use Rattle.std.proofs.lemmas.List.{length-map, get_or-map}
use Rattle.std.proofs.lemmas.List.Elements.{Contains-append_cases}
use Rattle.std.proofs.lemmas.Option.{slice_get-get_or}
use Rattle.atomic_table.specs.Seated.{TableId}
use Rattle.hg_place.specs.declared.plain.PlainWords.{PlainWords}
use Rattle.hg_place.specs.declared.Handle.{Handle}
use Rattle.hg_place.specs.declared.Place.{Place}
use Rattle.hg_place.specs.Places.{page_of, index_of}
use Rattle.hg_segment.specs.Kept.{Kept}
use Rattle.hg_segment.specs.Copies.{Copies, none, more}
use Rattle.hg_heap.specs.Allotted.{IsAllotted}
use Rattle.hg_heap.specs.Held.{Held}
use Rattle.hg_heap.specs.Idle.{bare}
use Rattle.hg_heap.specs.Taking.{IsTaken, IsPassed, Takes}
use Rattle.hg_heap.specs.Ties.{Stepped}
use Rattle.hg_heap.proofs.Founds.{contained_set, Contains-get}
use Rattle.hg_table.specs.declared.segment.UnnamedSegment.{UnnamedSegment}
use Rattle.hg_table.specs.Named.{table_of_segment}
use Rattle.hg_worker.specs.Seats.{number_in, records_in, part_of_seat, seat_shows, seat_steps}
use Rattle.hg_worker.specs.Seats.{AreOnTable}
use Rattle.hg_worker.proofs.Pools.{only}
use Rattle.hg_worker.proofs.Steps.{seat_shows as shows_of, seat_steps as steps_of}

-- a step of a seat, as what it is to what the seat knows
abbrev pub stepped_as : {place : Place} {word left : ℕ} {old new : List (Kept UnnamedSegment)}
    → Stepped number_in seat_shows seat_steps place word left old new
    → Stepped number_in (shows_of number_in part_of_seat) (steps_of number_in part_of_seat) place
    word left old new
stepped_as st = record {
  found = st.found;
  before = st.before;
  after = st.after;
  at = st.at;
  now = st.now;
  segment = st.segment;
  kind = st.kind;
  shown = st.shown;
  stepped = st.stepped.step;
}

-- so is what a place that is given out is
abbrev pub allotted_as : {size owner : ℕ} {handle : Handle} {old new : List (Kept UnnamedSegment)}
    → IsAllotted number_in records_in seat_shows seat_steps size owner handle old new
    → IsAllotted number_in records_in (shows_of number_in part_of_seat)
    (steps_of number_in part_of_seat) size owner handle old new
allotted_as given = record {
  word = given.word;
  stepped = stepped_as given.stepped;
  given = given.given;
  home = given.home;
}

-- a seat that is of its table still is one of those of its words, and of its segments
pub same_words : {table table' : TableId} {words : ℕ} → table' ≡ table → table.words ≡ words
    → table'.words ≡ words
same_words same is = ap (λ (t : TableId). t.words) same ∙ is

pub same_together : {table table' : TableId} (segments : List (Kept UnnamedSegment))
    → table' ≡ table → AreOnTable table segments → AreOnTable table' segments
same_together segments same are k c = are k c ∙ sym same

module _ {table : TableId} where
  -- one of them has changed
  pub set_on_table : (old new : List (Kept UnnamedSegment)) (found : ℕ)
      (before after : Kept UnnamedSegment) → slice_get old found ≡ Some before
      → new ≡ slice_set old found after
      → table_of_segment after.slots ≡ table_of_segment before.slots → AreOnTable table old
      → AreOnTable table new
  set_on_table old new found before after at now same are k c = elim (contained_set old found after k
      (subst (λ (xs : List (Kept UnnamedSegment)). Contains xs k) now c)) [
        | inl e ↦
            ap (λ (j : Kept UnnamedSegment). table_of_segment j.slots) e ∙ same
            ∙ are before (Contains-get old found before at)
        | inr there ↦ are k there
      ]

  -- one of them made a step
  pub stepped_on_table : {place : Place} {word left : ℕ} {old new : List (Kept UnnamedSegment)}
      → Stepped number_in seat_shows seat_steps place word left old new → AreOnTable table old
      → AreOnTable table new
  stepped_on_table {place} {word} {left} {old} {new} st are =
      set_on_table old new st.found st.before st.after st.at st.now st.stepped.same are

  -- one has come
  pub more_on_table : (xs : List (Kept UnnamedSegment)) (one : Kept UnnamedSegment)
      → AreOnTable table xs → table_of_segment one.slots ≡ table
      → AreOnTable table (xs ++ one ∷ [])
  more_on_table xs one are here k c =
      ⊎_elim (λ (l : Contains xs k). are k l)
      (λ (r : Contains (one ∷ []) k).
      subst (λ (j : Kept UnnamedSegment). table_of_segment j.slots ≡ table) (only one k r) here)
      (Contains-append_cases xs (one ∷ []) k c)

  -- classes and lists alone have changed
  pub bare_on_table : (old new : List (Kept UnnamedSegment)) → map bare new ≡ map bare old
      → AreOnTable table old → AreOnTable table new
  bare_on_table old new same are k c =
      let inside : c.0 < length old =
      omega (
        arith,
        c.1,
        length-map new (bare {S = UnnamedSegment}),
        length-map old (bare {S = UnnamedSegment}),
        ap length same,
      )
      in
      let j = get_or old c.0 k in
      let is : bare k ≡ bare j =
      ap bare (sym c.2) ∙ sym (get_or-map bare new c.0 k (bare k) c.1)
      ∙ ap (λ (ks : List (Kept UnnamedSegment)). get_or ks c.0 (bare k)) same
      ∙ get_or-map bare old c.0 k (bare k) inside in
      ap (λ (b : Kept UnnamedSegment). table_of_segment b.slots) is
      ∙ are j (Contains-get old c.0 j (slice_get-get_or old c.0 k inside))

  link_on_table : (segment page index : ℕ) (old new : Held UnnamedSegment)
      → IsTaken number_in records_in seat_shows seat_steps segment page index old new
      ⊎ IsPassed number_in records_in seat_shows seat_steps segment page index old new
      → AreOnTable table old.segments → AreOnTable table new.segments
  link_on_table segment page index old new either are =
      ⊎_elim
      (λ (t : IsTaken number_in records_in seat_shows seat_steps segment page index old new).
      (let a = t.another in
      set_on_table old.segments new.segments a.found a.before a.after a.at a.now
      t.home.took.step.same are))
      (λ (p : IsPassed number_in records_in seat_shows seat_steps segment page index old new).
      (let a = p.another in
      set_on_table old.segments new.segments a.found a.before a.after a.at a.now
      (⊎_elim (λ still. ap table_of_segment still.1) (λ stepped. stepped.3.same) p.away.passed)
      are))
      either

  -- what was sent was taken in
  pub taking_on_table : (segment count : ℕ) (places : List ℕ) (old new : Held UnnamedSegment)
      → Takes number_in records_in seat_shows seat_steps segment places old new count
      → AreOnTable table old.segments → AreOnTable table new.segments
  taking_on_table segment count [] old new t are =
      subst (λ (h : Held UnnamedSegment). AreOnTable table h.segments) (sym t.0) are
  taking_on_table segment count (place ∷ places) old new t are =
      taking_on_table segment t.1 places t.0 new t.2
      (link_on_table segment (page_of place) (index_of place) old t.0
      (⊎_elim (λ taken. inl taken.0) (λ passed. inr passed.0) t.3) are)

-- a seat of which each word was looked at is of its table still
pub same_table : (n : ℕ) (s t : UnnamedSegment) (p q : PlainWords)
    → Copies records_in seat_shows seat_steps n s p t q
    → table_of_segment t ≡ table_of_segment s
same_table _ s t p q none = refl
same_table _ s t p q (more before here) = here.step.same ∙ same_table _ s _ p _ before
