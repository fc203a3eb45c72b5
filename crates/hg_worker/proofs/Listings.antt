-- Listings: which places are open, and one look after another.
use Rattle.std.proofs.Common.{◌≡◌, ℕ, suc, zero, ◌+◌, ◌*◌, ◌%◌, ◌<◌, ◌≤◌, Bool, true, false}
use Rattle.std.proofs.Common.{Some, None, is_some, slice_index_or}
use Rattle.std.proofs.Common.{List, [], ◌∷◌, ◌++◌, map, filter}
use Rattle.std.proofs.Common.{refl, sym, ap, subst, ◌∙◌, arith, append-nil, append_assoc}
use Rattle.std.specs.List.{range_with_len, All}
use Rattle.std.specs.Prelude.{Option}
use Rattle.std.proofs.lemmas.List.{map-append}
use Rattle.std.proofs.lemmas.Bool.{true≢false}
use Rattle.std.proofs.lemmas.List.Elements.{filter-append, filter_passes, All-map, All-filter}
use Rattle.std.proofs.lemmas.List.Elements.{All-nil, All-cons}
use Rattle.hg_place.specs.declared.Actor.{Actor}
use Rattle.hg_place.specs.declared.Place.{Place}
use Rattle.hg_place.specs.declared.standing.Standing.{Standing}
use Rattle.hg_place.specs.Places.{place_at, segment_of}
use Rattle.hg_machine.specs.declared.Answer.{Answer}
use Rattle.hg_machine.specs.declared.Answer.TheVariants as answer
use Rattle.hg_machine.specs.declared.Event.TheVariants as event
use Rattle.hg_machine.specs.declared.Row.{Row}
use Rattle.hg_segment.specs.Kept.{Kept}
use Rattle.hg_agreement.specs.Views.{Shown}
use Rattle.hg_heap.specs.Held.{is_held, segment_in}
use Rattle.hg_heap.specs.Keeping.{KeepsAll}
use Rattle.hg_heap.specs.Ties.{HeapTies, shown_at}
use Rattle.hg_heap.proofs.Options.{none_is}
use Rattle.hg_table.specs.declared.view.Part.{Part}
use Rattle.hg_worker.specs.Answers.{rows_in}
use Rattle.hg_worker.specs.Had.{Had}
use Rattle.hg_worker.specs.Listing.{is_open_by, is_open, open_among, places_below, places_in}
use Rattle.hg_worker.specs.Listing.{IsLook, AreLooks}
use Rattle.hg_worker.specs.Seen.{Looked, StepsWithin}
use Rattle.hg_worker.specs.Tied.{IsTied}
use Rattle.hg_worker.proofs.WorkerLaws.{one_word_is_left}

range_then : (a m n : ℕ)
    → range_with_len a (m + n) ≡ range_with_len a m ++ range_with_len (a + m) n
range_then a zero n =
    let d : 0 + n ≡ n = omega arith in
    let e : a + 0 ≡ a = omega arith in
    rw (d, e) refl
range_then a (suc m) n =
    let d : suc m + n ≡ suc (m + n) = omega arith in
    let e : a + suc m ≡ (a + 1) + m = omega arith in
    rw (d, e) (ap (λ l. a ∷ l) (range_then (a + 1) m n))

-- a range of which a test takes nothing
filter_passed : (p : ℕ → Bool) (a n : ℕ) → ((k : ℕ) → a ≤ k → k < a + n → p k ≡ false)
    → filter p (range_with_len a n) ≡ []
filter_passed p a zero none = refl
filter_passed p a (suc n) none =
    rw (none a (omega arith) (omega arith))
    (filter_passed p (a + 1) n (λ k from below. none k (omega arith) (omega arith)))

all_below : (a n b : ℕ) → a + n ≤ b → All (λ k. k < b) (range_with_len a n)
all_below a zero b le = All-nil (λ k. k < b)
all_below a (suc n) b le =
    All-cons (λ k. k < b) a (range_with_len (a + 1) n) (omega (arith, le))
    (all_below (a + 1) n b (omega (arith, le)))

in_segment : (segment k : ℕ) → segment * 8192 ≤ k → k < segment * 8192 + 8192
    → segment_of k ≡ segment
in_segment segment k from below = omega arith

-- an answer that isn't Listed shows no row
pub no_rows : (a : Answer) → ((row : Row) → a ≡ answer.Listed row → ⊥) → rows_in a ≡ []
no_rows (answer.Block handle) not = refl
no_rows answer.Done not = refl
no_rows answer.Parted not = refl
no_rows (answer.Denied rule) not = refl
no_rows answer.TooLarge not = refl
no_rows answer.NoRoom not = refl
no_rows answer.Elsewhere not = refl
no_rows answer.OutOfBlock not = refl
no_rows answer.Busy not = refl
no_rows answer.NothingInHand not = refl
no_rows (answer.Taken count) not = refl
no_rows answer.NotHeld not = refl
no_rows (answer.Pages count) not = refl
no_rows (answer.Value value) not = refl
no_rows (answer.Refilled segment) not = refl
no_rows answer.NoSegment not = refl
no_rows (answer.Listed row) not = absurd (not row refl)

module _ {S : Type 0} (number : S → ℕ) (records : S → List Standing) where
  -- of a range and the next those of both
  pub open_then : (segments : List (Kept S)) (a m n : ℕ)
      → open_among number records segments (range_with_len a (m + n))
      ≡ open_among number records segments (range_with_len a m)
      ++ open_among number records segments (range_with_len (a + m) n)
  open_then segments a m n =
      ap (open_among number records segments) (range_then a m n)
      ∙ ap (map place_at)
      (filter-append (is_open number records segments) (range_with_len a m)
      (range_with_len (a + m) n))
      ∙ map-append place_at
      (filter (is_open number records segments) (range_with_len a m))
      (filter (is_open number records segments) (range_with_len (a + m) n))

  -- no place is open of a segment that isn't held
  pub none_open : (segments : List (Kept S)) (segment : ℕ)
      → is_held number segments segment ≡ false
      → open_among number records segments (places_in segment) ≡ []
  unfolding places_in
  none_open segments segment away =
      ap (map place_at)
      (filter_passed (is_open number records segments) (segment * 8192) 8192
      (λ k from below.
      ap (λ s. is_open_by number records (segment_in number segments s) (k % 8192))
      (in_segment segment k from below)
      ∙ ap (λ o. is_open_by number records o (k % 8192))
      (none_is (segment_in number segments segment) away)))

  -- the places of no segment, of one more, and so far of one
  pub below_none : (segments : List (Kept S))
      → open_among number records segments (places_below 0) ≡ []
  unfolding places_below
  below_none segments = refl

  pub below_more : (segments : List (Kept S)) (segment : ℕ)
      → open_among number records segments (places_below (segment + 1))
      ≡ open_among number records segments (places_below segment)
      ++ open_among number records segments (places_in segment)
  unfolding places_below places_in
  below_more segments segment =
      let e : (segment + 1) * 8192 ≡ segment * 8192 + 8192 = omega arith in
      let z : 0 + segment * 8192 ≡ segment * 8192 = omega arith in
      ap (λ n. open_among number records segments (range_with_len 0 n)) e
      ∙ open_then segments 0 (segment * 8192) 8192
      ∙ ap (λ a. open_among number records segments (range_with_len 0 (segment * 8192))
      ++ open_among number records segments (range_with_len a 8192)) z

  pub whole_segment : (segments : List (Kept S)) (segment n : ℕ) → n ≡ 8192
      → open_among number records segments (range_with_len (segment * 8192) n)
      ≡ open_among number records segments (places_in segment)
  unfolding places_in
  whole_segment segments segment n e =
      ap (λ m. open_among number records segments (range_with_len (segment * 8192) m)) e

  -- and each that is open is of a segment that is held
  open_is_held : (o : Option (Kept S)) (slot : ℕ) → is_open_by number records o slot ≡ true
      → is_some o ≡ true
  open_is_held None slot e = absurd (true≢false (sym e))
  open_is_held (Some k) slot e = refl

  held_at : (segments : List (Kept S)) (place : ℕ) → place < 64 * 8192
      → is_open number records segments place ≡ true
      → is_held number segments (place_at place).segment ≡ true
  held_at segments place below opened =
      let same : (place_at place).segment ≡ segment_of place = omega (arith, below) in
      ap (is_held number segments) same
      ∙ open_is_held (segment_in number segments (segment_of place)) (place % 8192) opened

  pub open_are_held : (segments : List (Kept S))
      → All (λ (place : Place). is_held number segments place.segment ≡ true)
      (open_among number records segments (places_below 64))
  unfolding places_below
  open_are_held segments =
      let places = range_with_len 0 (64 * 8192) in
      let opened = is_open number records segments in
      let held : Place → Type 0 = λ place. is_held number segments place.segment ≡ true in
      let low = All-filter opened (λ place. place < 64 * 8192) places
      (all_below 0 (64 * 8192) (64 * 8192) (omega arith)) in
      All-map held place_at (filter opened places)
      (λ k d inside.
      held_at segments (slice_index_or (filter opened places) k d) (low k d inside)
      (filter_passes opened places k d inside))

  module _ (part : S → Part) where
    abbrev told_as : ℕ → ℕ → Option Shown
    told_as place word = Some (record { place = place; word = word })

    -- what a look of a held place found is one word, whichever clause tells it
    same_shown : (place : Place) (word : ℕ) (shown : Option Shown) (old new : Had S)
        → Looked number part place (shown_at place word) old new
        → Looked number part place shown old new → shown_at place word ≡ shown
    same_shown place word None old new looked other =
        absurd (true≢false (sym looked.0 ∙ ap is_some other.0))
    same_shown place word (Some shown) old new looked other =
        let left : word ≡ shown.word =
        (one_word_is_left number part place word word shown.word shown.word [] [] old new looked.2
        other.2).0 in
        ap (λ p. told_as p word) (sym other.1) ∙ ap (told_as shown.place) left

    -- what `look` says of a place that is held, of one word
    pub is_look : {actor : Actor} {place : Place} {told : Answer} {old new : Had S}
        → ((shown : Option Shown) × Looked number part place shown old new
        × IsTied number records shown (event.Look actor place) told shown old new)
        → ((word : ℕ) × Looked number part place (shown_at place word) old new
        × HeapTies number records old.policy (shown_at place word) (shown_at place word)
        (event.Look actor place) told old.heap.segments new.heap.segments)
        → StepsWithin number part 1 place old new
        → KeepsAll number records old.heap.segments new.heap.segments
        → IsLook number records part actor place told old new
    is_look {actor} {place} {told} {old} {new} look any once kept = (
      look.0,
      look.1,
      once,
      look.2,
      subst (λ shown. HeapTies number records old.policy shown shown (event.Look actor place) told
          old.heap.segments new.heap.segments)
          (same_shown place any.0 look.0 old new any.1 look.1) any.2,
      kept,
    )

    -- one more look
    pub looks_then : (actor : Actor) (places : List Place) (place : Place) (rows : List Row)
        (told : Answer) (old mid new : Had S)
        → AreLooks number records part actor places rows old mid
        → IsLook number records part actor place told mid new
        → AreLooks number records part actor (places ++ place ∷ []) (rows ++ rows_in told) old
        new
    looks_then actor [] place rows told old mid new none look = (
      told,
      new,
      [],
      subst (λ h. IsLook number records part actor place told h new) none.1 look,
      ap (λ r. r ++ rows_in told) none.0 ∙ sym (append-nil (rows_in told)),
      (refl, refl),
    )
    looks_then actor (first ∷ places) place rows told old mid new l look = (
      l.0,
      l.1,
      l.2 ++ rows_in told,
      l.3,
      ap (λ r. r ++ rows_in told) l.4 ∙ append_assoc (rows_in l.0) l.2 (rows_in told),
      looks_then actor places place l.2 told l.1 mid new l.5 look,
    )
