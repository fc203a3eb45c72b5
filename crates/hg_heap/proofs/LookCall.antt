-- A look, tied.
use Rattle.std.proofs.Common.{◌≡◌, ℕ, ◌*◌, arith, Bool, not, true, ◌∷◌, [], List, length, refl}
use Rattle.std.proofs.Common.{sym, ap, subst, ◌∙◌, max, slice_set, Option, Some, None}
use Rattle.std.specs.Prelude.{IfSome, IfNone}
use Rattle.hg_place.specs.declared.Actor.{Actor}
use Rattle.hg_place.specs.declared.Place.{Place}
use Rattle.hg_place.specs.declared.Handle.{Handle}
use Rattle.hg_place.specs.declared.Right.TheVariants as right
use Rattle.hg_place.specs.declared.standing.Standing.{Standing}
use Rattle.hg_place.specs.Slots.{slot_in}
use Rattle.hg_place.specs.Standings.{slot_of, standing_at}
use Rattle.hg_machine.specs.declared.Rule.{Rule}
use Rattle.hg_machine.specs.declared.Row.{Row}
use Rattle.hg_machine.specs.declared.Event.TheVariants as event
use Rattle.hg_machine.specs.declared.Answer.{Answer}
use Rattle.hg_machine.specs.declared.Answer.TheVariants as answer
use Rattle.hg_machine.specs.Policy.{Policy}
use Rattle.hg_machine.specs.Refusal.{denial_or}
use Rattle.hg_segment.specs.Kept.{Kept}
use Rattle.hg_segment.specs.Blocks.{block_at}
use Rattle.hg_agreement.specs.Seen.{refusal_in}
use Rattle.hg_agreement.proofs.Reading.{look_is_tied}
use Rattle.hg_heap.specs.Ties.{heap_view, shown_at, HeapTies}
use Rattle.hg_heap.specs.Answers.{row_answer, list_denial}
use Rattle.hg_heap.specs.Stays.{Looked}
use Rattle.hg_heap.specs.Reading.{IsRowOf}
use Rattle.hg_heap.proofs.Founds.{Found}
use Rattle.hg_heap.proofs.FoundHoldings.{block_found, held_found}
use Rattle.hg_heap.proofs.OpenBlocks.{generation_read, owner_read}
use Rattle.hg_heap.proofs.Looking.{FitsLaw, ends, refused_ends, slot_below, open_one, block_here}
use Rattle.hg_heap.proofs.Looking.{block_after}

module _ {S : Type 0} (number : S → ℕ) (records : S → List Standing) (shows : S → ℕ → ℕ → Type 0)
    (steps : S → ℕ → ℕ → ℕ → S → Type 0) (fits : FitsLaw number records shows steps)
    (policy : Policy) (items : List (Kept S)) (found word : ℕ) (actor : Actor) (place : Place)
    (one after : Kept S)
    (here : Found number items place.segment found one)
    (looked : Looked number records shows steps place word one after)
    (words : after.words ≡ one.words) where
  abbrev denial : Option Rule
  denial = list_denial policy actor place word

  abbrev TiedSo : Answer → Type 0
  TiedSo a = HeapTies number records policy (shown_at place word) (shown_at place word)
      (event.Look actor place) a items (slice_set items found after)

  abbrev reason_by : Option Rule → Bool → Option Answer
  reason_by o held = denial_or o ((not held, answer.Elsewhere) ∷ [])

  reason : (o : Option Rule) → denial ≡ o → (w : ℕ) (h : Option ℕ) (g : ℕ)
      → refusal_in (heap_view number records policy w h g items) (slot_in word)
      (event.Look actor place) ≡ reason_by o true
  reason o e w h g =
      ap (reason_by denial) (held_found number records items place found one here)
      ∙ ap (λ (d : Option Rule). reason_by d true) e

  denied_tied : (rule : Rule) → denial ≡ Some rule → TiedSo (row_answer None denial)
  denied_tied rule e = subst (λ (o : Option Rule). TiedSo (row_answer None o)) (sym e)
      (refused_ends here looked words
      policy (event.Look actor place) (answer.Denied rule) (λ w h g. refl)
      (reason (Some rule) e))

  row_tied : (row : Row) → denial ≡ None
      → IsRowOf place word (block_at after.words after.classes place.page place.index) row
      → TiedSo (answer.Listed row)
  row_tied row none is = ends here looked words policy (event.Look actor place) (answer.Listed row)
      (λ w h g below.
      let view = heap_view number records policy w h g items in
      let f = fits one.slots (slot_of place) word (slot_below place) looked.shown in
      let st = standing_at (records one.slots) (slot_of place) in
      let handle : Handle = record
      { place = place; generation = max 1 (slot_in word).generation; given_out = omega arith }
      in
      let away = open_one fits policy actor.0 right.List handle looked none in
      let block = block_found number records items place found one here
      ∙ block_here fits policy actor.0 right.List handle looked none in
      look_is_tied view (shown_at place word) actor place row below refl (reason None none w h g)
      (record {
        stands = is.stands;
        generation = is.generation ∙ sym (generation_read st word f.0 f.1);
        owner = is.owner ∙ sym (owner_read st word f.0 f.1 away);
        bytes = is.bytes ∙ ap (λ (ws : List ℕ). 8 * length ws)
            (block_after here looked
            words ∙ sym block);
      }))

  pub look_tied : (result : Option Row) → IfNone result ((rule : Rule) × (denial ≡ Some rule))
      → IfSome result (λ row. denial ≡ None)
      → IfSome result (λ row. IsRowOf place word
      (block_at after.words after.classes place.page place.index) row)
      → TiedSo (row_answer result denial)
  look_tied None none allowed row = denied_tied none.0 none.1
  look_tied (Some r) none allowed row = row_tied r allowed row
