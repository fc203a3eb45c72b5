-- What a step of one seat is to the worker that has it.
use Rattle.std.proofs.Common.{◌≡◌, ◌≢◌, ◌≤◌, ℕ, true, false, List, [], ◌∷◌, ◌++◌, map, length, Some}
use Rattle.std.proofs.Common.{slice_set, is_some, refl, sym, ap, subst, ◌∙◌, ⊎_elim, arith}
use Rattle.std.specs.Prelude.{Option, option_map, Result, Ok, Err, OnOk, IfOk, IfErr}
use Rattle.std.proofs.lemmas.List.{append-nil}
use Rattle.std.proofs.lemmas.Bool.{true≢false}
use mathlib.Core.Option.{some}
use lib.ListN.{get_elem?}
use Rattle.atomic_table.proofs.Lists.{at_snoc}
use Rattle.hg_lists.specs.Repeats.{HasNoRepeats}
use Rattle.hg_place.specs.declared.Place.{Place}
use Rattle.hg_place.specs.Lives.{IsAtOrBefore}
use Rattle.hg_place.specs.Standings.{slot_of}
use Rattle.hg_segment.specs.Kept.{Kept}
use Rattle.hg_heap.specs.Held.{segment_in, is_held}
use Rattle.hg_machine.specs.Policy.{arena_of}
use Rattle.hg_heap.specs.Ties.{Stepped, shown_at}
use Rattle.hg_heap.proofs.Founds.{numbers, Found, found_is, found_after}
use Rattle.hg_heap.proofs.Gone.{found_there}
use Rattle.hg_heap.proofs.PageChanged.{other_found}
use Rattle.hg_heap.proofs.Options.{none_is}
use Rattle.hg_table.specs.declared.view.Part.{Part}
use Rattle.hg_table.specs.Seats.{word_at, HasStepped, ended_after}
use Rattle.hg_table.specs.Told.{IsShown}
use Rattle.hg_table.proofs.Knowing.{itself, between}
use Rattle.hg_table.proofs.Told.{not_ended}
use Rattle.hg_worker.specs.Had.{Had}
use Rattle.hg_worker.specs.Seen.{word_of, part_by, part_for, part_of_segment, Decided, KeepsSeats}
use Rattle.hg_worker.specs.Seen.{Looked, StepsWithin}

-- where the last word that was seen is at or after the one found, it is at or after all
pub newest_of : (at found left : ℕ) (a b : Part) → IsShown at found a → IsAtOrBefore found left
    → b.seen ≡ a.seen ++ (at, left) ∷ [] → (k word : ℕ) → get_elem? b.seen k ≡ some (at, word)
    → IsAtOrBefore word left
newest_of at found left a b shown goes is k word e =
    ⊎_elim
    (λ (o : get_elem? a.seen k ≡ some (at, word)).
    between word found left (shown.seen k word o) goes)
    (λ (o : ◌≡◌ {A = ℕ × ℕ} (at, left) (at, word)).
    subst (λ w. IsAtOrBefore w left) (ap (λ (p : ℕ × ℕ). p.1) o) (itself left))
    (at_snoc a.seen (at, left) (at, word) k
    (subst (λ (s : List (ℕ × ℕ)). get_elem? s k ≡ some (at, word)) is e))

-- a look ends nothing
pub looked_ends : (at word : ℕ) (ended : List (ℕ × ℕ))
    → ended_after at word word ended ≡ ended ++ []
looked_ends at word ended = not_ended at word word ended (λ e. e) ∙ sym (append-nil ended)

-- what follows of either end of a call
pub either_end : {X E G : Type 0} (r : Result X E) (P : Type 0) (Q : E → Type 0) → OnOk r P
    → IfErr r Q → (P → G) → ((e : E) → Q e → G) → G
either_end (Ok x) P Q ok err f h = f ok
either_end (Err e) P Q ok err f h = h e err

pub either_way : {X E G : Type 0} (r : Result X E) (P : X → Type 0) (Q : E → Type 0) → IfOk r P
    → IfErr r Q → ((x : X) → P x → G) → ((e : E) → Q e → G) → G
either_way (Ok x) P Q ok err f h = f x ok
either_way (Err e) P Q ok err f h = h e err

module _ {S : Type 0} (number : S → ℕ) (part : S → Part) where
  -- what the slot words of a seat show, and what their steps are
  abbrev pub seat_shows : S → ℕ → ℕ → Type 0
  seat_shows s at word = IsShown (word_at (number s) at) word (part s)

  abbrev pub seat_steps : S → ℕ → ℕ → ℕ → S → Type 0
  seat_steps s at found left t =
      HasStepped (part s) (word_at (number s) at) found left (part t)

  module _ (place : Place) (found left : ℕ) (old new : List (Kept S))
      (once : HasNoRepeats (numbers number old))
      (st : Stepped number seat_shows seat_steps place found left old new) where
    kept_number : number st.after.slots ≡ number st.before.slots
    kept_number = ap (λ k. k.number) st.kind

    there : Found number old (number st.before.slots) st.found st.before
    there = found_there number old st.found st.before once st.at

    pub before_in : segment_in number old place.segment ≡ Some st.before
    before_in =
        subst (λ n. segment_in number old n ≡ Some st.before) st.segment
        (found_is number old (number st.before.slots) st.found st.before there)

    pub after_in : segment_in number new place.segment ≡ Some st.after
    after_in =
        ap (λ (l : List (Kept S)). segment_in number l place.segment) st.now
        ∙ subst (λ n. segment_in number (slice_set old st.found st.after) n ≡ Some st.after)
        st.segment
        (found_is number (slice_set old st.found st.after) (number st.before.slots) st.found
        st.after
        (found_after number old (number st.before.slots) st.found st.before st.after there
        kept_number))

    pub others_in : (segment : ℕ) → segment ≢ place.segment
        → segment_in number new segment ≡ segment_in number old segment
    others_in segment ne =
        ap (λ (l : List (Kept S)). segment_in number l segment) st.now
        ∙ other_found number old st.found segment st.before st.after st.at kept_number
        (λ e. ne (e ∙ st.segment))

  module _ (place : Place) (found left : ℕ) (old new : Had S)
      (once : HasNoRepeats (numbers number old.heap.segments))
      (st : Stepped number seat_shows seat_steps place found left old.heap.segments
      new.heap.segments) where
    -- the seat for the place is that of its segment, before a step of it and after
    seat_before : part_for number part old place ≡ part st.before.slots
    seat_before =
        ap (λ (o : Option (Kept S)). part_by number part o old.own)
        (before_in place found left old.heap.segments new.heap.segments once st)

    seat_after : part_for number part new place ≡ part st.after.slots
    seat_after =
        ap (λ (o : Option (Kept S)). part_by number part o new.own)
        (after_in place found left old.heap.segments new.heap.segments once st)

    at_place : word_at (number st.before.slots) (slot_of place) ≡ word_of place
    at_place = ap (λ n. word_at n (slot_of place)) st.segment

    seat_stepped
        : HasStepped (part st.before.slots) (word_of place) found left (part st.after.slots)
    seat_stepped =
        subst (λ n. HasStepped (part st.before.slots) n found left (part st.after.slots)) at_place
        st.stepped

    one_more
        : (part_for number part new place).seen
        ≡ (part_for number part old place).seen ++ (word_of place, left) ∷ []
    one_more =
        ap (λ (p : Part). p.seen) seat_after ∙ seat_stepped.1
        ∙ ap (λ (p : Part). p.seen ++ (word_of place, left) ∷ []) (sym seat_before)

    -- it is one step
    pub held_once : StepsWithin number part 1 place old new
    held_once = (left ∷ [], omega arith, one_more)

  -- a step of the seat of a held segment
  pub held_decides : (place : Place) (found left : ℕ) (lives : List (ℕ × ℕ)) (old new : Had S)
      → HasNoRepeats (numbers number old.heap.segments)
      → Stepped number seat_shows seat_steps place found left old.heap.segments new.heap.segments
      → new.own ≡ old.own → IsAtOrBefore found left
      → ((ended : List (ℕ × ℕ))
      → ended_after (word_of place) found left ended ≡ ended ++ lives)
      → Decided number part place found left lives old new
  held_decides place found left lives old new once st own goes ends =
      let a = seat_before place found left old new once st in
      let b = seat_after place found left old new once st in
      let shown : IsShown (word_of place) found (part st.before.slots) =
      subst (λ n. IsShown n found (part st.before.slots))
      (at_place place found left old new once st) st.shown in
      let stepped = seat_stepped place found left old new once st in
      record {
        shown = subst (IsShown (word_of place) found) (sym a) shown;
        looked_at = [];
        seen = one_more place found left old new once st;
        newest = λ k word e.
            newest_of (word_of place) found left (part st.before.slots) (part st.after.slots) shown
            goes stepped.1 k word
            (subst (λ (p : Part). get_elem? p.seen k ≡ some (word_of place, word)) b e);
        ended = ap (λ (p : Part). p.ended) b ∙ stepped.2 ∙ ends (part st.before.slots).ended
            ∙ ap (λ (p : Part). p.ended ++ lives) (sym a);
        own = λ _. own;
        others = λ segment ne.
            ap (option_map (λ (k : Kept S). part k.slots))
            (others_in place found left old.heap.segments new.heap.segments once st segment ne);
      }

  -- the seat for a place of a segment that isn't held is the worker's own
  own_before : (place : Place) (old : Had S)
      → is_held number old.heap.segments place.segment ≡ false
      → part_for number part old place ≡ old.own
  own_before place old away =
      ap (λ (o : Option (Kept S)). part_by number part o old.own)
      (none_is (segment_in number old.heap.segments place.segment) away)

  own_after : (place : Place) (old new : Had S)
      → is_held number old.heap.segments place.segment ≡ false → new.heap ≡ old.heap
      → part_for number part new place ≡ new.own
  own_after place old new away same =
      ap (λ h. part_by number part (segment_in number h.segments place.segment) new.own) same
      ∙ ap (λ (o : Option (Kept S)). part_by number part o new.own)
      (none_is (segment_in number old.heap.segments place.segment) away)

  -- a seat that makes no step, and the worker's own, for a place of a segment that isn't held
  pub no_step : (most : ℕ) (place : Place) (had : Had S)
      → StepsWithin number part most place had had
  no_step most place had = ([], omega arith, sym (append-nil (part_for number part had place).seen))

  pub own_steps : (most : ℕ) (place : Place) (words : List ℕ) (old new : Had S)
      → is_held number old.heap.segments place.segment ≡ false → new.heap ≡ old.heap
      → length words ≤ most
      → new.own.seen ≡ old.own.seen ++ map (λ word. (word_of place, word)) words
      → StepsWithin number part most place old new
  own_steps most place words old new away same few seen = (
    words,
    few,
    ap (λ (p : Part). p.seen) (own_after place old new away same) ∙ seen
        ∙ ap (λ (p : Part). p.seen ++ map (λ word. (word_of place, word)) words)
        (sym (own_before place old away)),
  )

  -- what the worker's own seat does for a place of a segment that isn't held
  pub own_decides : (place : Place) (found left : ℕ) (lives : List (ℕ × ℕ)) (words : List ℕ)
      (old new : Had S) → is_held number old.heap.segments place.segment ≡ false
      → new.heap ≡ old.heap → IsShown (word_of place) found old.own
      → new.own.seen
      ≡ old.own.seen ++ (map (λ word. (word_of place, word)) words ++ (word_of place, left) ∷ [])
      → ((k word : ℕ) → get_elem? new.own.seen k ≡ some (word_of place, word)
      → IsAtOrBefore word left)
      → new.own.ended ≡ old.own.ended ++ lives
      → Decided number part place found left lives old new
  own_decides place found left lives words old new away same shown seen newest ended =
      let a = own_before place old away in
      let b = own_after place old new away same in
      record {
        shown = subst (IsShown (word_of place) found) (sym a) shown;
        looked_at = words;
        seen = ap (λ (p : Part). p.seen) b ∙ seen
            ∙ ap (λ (p : Part). p.seen
            ++ (map (λ word. (word_of place, word)) words ++ (word_of place, left) ∷ [])) (sym a);
        newest = λ k word e.
            newest k word
            (subst (λ (p : Part). get_elem? p.seen k ≡ some (word_of place, word)) b e);
        ended = ap (λ (p : Part). p.ended) b ∙ ended ∙ ap (λ (p : Part). p.ended ++ lives) (sym a);
        own = λ held. absurd (true≢false (sym held ∙ away));
        others = λ segment ne.
            ap (λ h. part_of_segment number part (record new { heap = h }) segment) same;
      }

  -- a look by it
  pub own_looks : (place : Place) (word : ℕ) (old new : Had S)
      → is_held number old.heap.segments place.segment ≡ false → new.heap ≡ old.heap
      → IsShown (word_of place) word old.own
      → HasStepped old.own (word_of place) word word new.own
      → Decided number part place word word [] old new
  own_looks place word old new away same shown stepped =
      own_decides place word word [] [] old new away same shown stepped.1
      (newest_of (word_of place) word word old.own new.own shown (itself word) stepped.1)
      (stepped.2 ∙ looked_ends (word_of place) word old.own.ended)

  -- of a place of the policy
  pub own_looked : (place : Place) (word : ℕ) (old new : Had S)
      → is_some (arena_of old.policy place.segment) ≡ true
      → is_held number old.heap.segments place.segment ≡ false → new.heap ≡ old.heap
      → IsShown (word_of place) word old.own
      → HasStepped old.own (word_of place) word word new.own
      → Looked number part place (shown_at place word) old new
  own_looked place word old new there away same shown step =
      (there, refl, own_looks place word old new away same shown step)

  -- nothing was looked at
  pub seats_stay : (old new : Had S) → new.heap ≡ old.heap → new.own ≡ old.own
      → KeepsSeats number part old new
  seats_stay old new same own = record {
    own = own;
    segments = λ segment.
        ap (λ h. part_of_segment number part (record new { heap = h }) segment) same;
  }
