-- What a look at a place tells of the verdict on its word, and what it leaves of the segments.
use Rattle.std.proofs.Common.{◌≡◌, ℕ, arith, Bool, true, false, cond, nat_lt, List, [], length}
use Rattle.std.proofs.Common.{Option, Some, None, refl, sym, ap, subst, ◌∙◌, slice_set}
use Rattle.std.specs.Prelude.{Result, Ok, Err, OnOk, OnErr, IfSome, max}
use Rattle.hg_place.specs.declared.Actor.{Actor}
use Rattle.hg_place.specs.declared.Place.{Place}
use Rattle.hg_place.specs.declared.Handle.{Handle}
use Rattle.hg_place.specs.declared.Right.{Right}
use Rattle.hg_place.specs.declared.Right.TheVariants as right
use Rattle.hg_place.specs.declared.standing.Standing.{Standing}
use Rattle.hg_place.specs.Lives.{IsLiveWord}
use Rattle.hg_place.specs.Slots.{slot_in}
use Rattle.hg_place.specs.Standings.{slot_of, standing_at}
use Rattle.hg_machine.specs.declared.Rule.{Rule}
use Rattle.hg_machine.specs.declared.Row.{Row}
use Rattle.hg_machine.specs.Policy.{Policy}
use Rattle.hg_segment.specs.Kept.{Kept}
use Rattle.hg_segment.specs.Blocks.{block_at, KeepsOtherBlocks}
use Rattle.hg_agreement.specs.Holdings.{view_of}
use Rattle.hg_agreement.proofs.Sees.{undenied_is_live}
use Rattle.hg_heap.specs.declared.refused.Refused.TheVariants as refused
use Rattle.hg_heap.specs.Answers.{list_denial}
use Rattle.hg_heap.specs.Judged.{IsJudged, rule_in}
use Rattle.hg_heap.specs.Keeping.{Rest, rest_of, KeepsAll, Wrote}
use Rattle.hg_heap.specs.Reading.{use_denial, reached, block_by, block_in, IsRowOf}
use Rattle.hg_heap.specs.Stays.{Looked}
use Rattle.hg_heap.proofs.Founds.{Found, found_is, map_same, number_is}
use Rattle.hg_heap.proofs.Freeable.{live_odd}
use Rattle.hg_heap.proofs.Looking.{FitsLaw, block_after, slot_below}
use Rattle.hg_heap.proofs.OpenBlocks.{generation_read}

-- an answer by a verdict names the verdict's rule
pub rule_reached : {X : Type 0} (o : Option Rule) (block : List ℕ) (index : ℕ) (value : X)
    → rule_in (reached o block index value) ≡ o
rule_reached (Some rule) block index value = refl
rule_reached {X} None block index value = by (nat_lt index (length block))
  where
    by : (b : Bool) → rule_in (cond b (Ok value) (Err refused.OutOfBlock)) ≡ None
    by true = refl
    by false = refl

-- what follows from what is so of an answer is so of it
pub on_err : {X E P Q : Type 0} (r : Result X E) → OnErr r P → (P → Q) → OnErr r Q
on_err (Ok x) p f = tt
on_err (Err e) p f = f p

pub on_ok : {X E P Q R : Type 0} (r : Result X E) → OnOk r P → OnOk r Q → (P → Q → R) → OnOk r R
on_ok (Ok x) p q f = f p q
on_ok (Err e) p q f = tt

pub some_row : {X : Type 0} (P : X → Type 0) {Q : X → Type 0} → ((x : X) → P x → Q x)
    → (o : Option X) → IfSome o P → IfSome o Q
some_row P f None p = tt
some_row P f (Some x) p = f x p

abbrev rest_with : Rest → ℕ → List Standing → List ℕ → Rest
rest_with r number standings words = record r {
  number = number;
  standings = standings;
  words = words;
}

module _ {S : Type 0} (number : S → ℕ) (records : S → List Standing) where
  -- a segment whose slot words keep number and records is as it was
  pub rest_same : (one after : Kept S) → number after.slots ≡ number one.slots
      → records after.slots ≡ records one.slots → after.words ≡ one.words
      → after ≡ record one { slots = after.slots; words = after.words }
      → rest_of number records after ≡ rest_of number records one
  rest_same one after same_number same_records words rest =
      ap (rest_of number records) rest
      ∙ ap (λ (n : ℕ). rest_with (rest_of number records one) n (records after.slots) after.words)
      same_number
      ∙ ap (λ (rs : List Standing). rest_with (rest_of number records one) (number one.slots) rs
      after.words) same_records
      ∙ ap (λ (ws : List ℕ). rest_with (rest_of number records one) (number one.slots)
      (records one.slots) ws) words

module _ {S : Type 0} (number : S → ℕ) (records : S → List Standing) (shows : S → ℕ → ℕ → Type 0)
    (steps : S → ℕ → ℕ → ℕ → S → Type 0) where
  -- the rule that the word names, or the handle's life
  pub judged_as : (fits : FitsLaw number records shows steps) (policy : Policy) (actor : ℕ)
      (which : Right) (handle : Handle) (word : ℕ) (one : Kept S) (denial : Option Rule)
      → shows one.slots (slot_of handle.place) word
      → use_denial policy actor which handle word ≡ denial
      → IsJudged policy actor which handle word denial
  judged_as fits policy actor which handle word one denial shown is =
      let f = fits one.slots (slot_of handle.place) word (slot_below handle.place) shown in
      record {
        named = is;
        live = λ none. (
          f.0,
          live_odd word (undenied_is_live (view_of policy 0 None 0 []) (slot_in word) actor which
              handle (is ∙ none)).1,
        );
        generation = λ none.
            sym (generation_read (standing_at (records one.slots) (slot_of handle.place)) word f.0
            f.1)
            ∙ (undenied_is_live (view_of policy 0 None 0 []) (slot_in word) actor which handle
            (is ∙ none)).0;
      }

  -- of a row that is shown the word is live
  pub shown_live : (fits : FitsLaw number records shows steps) (policy : Policy) (actor : Actor)
      (place : Place) (word : ℕ) (one : Kept S) (result : Option Row)
      → shows one.slots (slot_of place) word
      → IfSome result (λ row. list_denial policy actor place word ≡ None)
      → IfSome result (λ row. IsLiveWord word)
  shown_live fits policy actor place word one None shown allowed = tt
  shown_live fits policy actor place word one (Some row) shown allowed =
      (judged_as fits policy actor.0 right.List (record {
        place = place;
        generation = max 1 (slot_in word).generation;
        given_out = omega arith;
      }) word one None shown allowed).live refl

module _ {S : Type 0} {number : S → ℕ} {records : S → List Standing} {shows : S → ℕ → ℕ → Type 0}
    {steps : S → ℕ → ℕ → ℕ → S → Type 0} {items : List (Kept S)} {found word : ℕ} {place : Place}
    {one after : Kept S} (here : Found number items place.segment found one)
    (looked : Looked number records shows steps place word one after) where
  -- without a write, each segment is as it was
  pub all_kept : after.words ≡ one.words → KeepsAll number records items (slice_set items found
      after)
  all_kept words = map_same (rest_of number records) items found one after here.at
      (rest_same number records one after looked.same_number looked.same_records words
      looked.rest)

  -- with one, all but a word of the block
  pub wrote : (index value : ℕ)
      → block_at after.words one.classes place.page place.index ≡ slice_set
      (block_at one.words one.classes place.page place.index) index value
      → KeepsOtherBlocks (records one.slots) one.classes place.page place.index one.words
      after.words
      → Wrote number records place index value items (slice_set items found after)
  wrote index value written others = record {
    found = found;
    before = one;
    after = after;
    at = here.at;
    now = refl;
    segment = number_is number items place.segment found one here;
    same_number = looked.same_number;
    same_records = looked.same_records;
    rest = looked.rest;
    written = written;
    others = others;
  }

  -- the row that is shown is of the block that the heap has
  pub row_kept : after.words ≡ one.words → (row : Row)
      → IsRowOf place word (block_at after.words after.classes place.page place.index) row
      → IsRowOf place word (block_in number items place) row
  row_kept words row is = subst (λ (b : List ℕ). IsRowOf place word b row)
      (block_after here looked words
      ∙ sym (ap (λ (o : Option (Kept S)). block_by number o place)
      (found_is number items place.segment found one here))) is
