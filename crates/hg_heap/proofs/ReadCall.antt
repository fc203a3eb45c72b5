-- A read, tied.
use Rattle.std.proofs.Common.{◌≡◌, ℕ, ◌<◌, Bool, List, length, refl, sym, ap, subst, ◌∙◌}
use Rattle.std.proofs.Common.{slice_index, slice_set, Option, Some, None, inl, inr, cond}
use Rattle.std.specs.Prelude.{Result, Ok, Err}
use Rattle.std.proofs.lemmas.Bool.{cases_lt, lt-ltb, le-ltb}
use Rattle.hg_place.specs.declared.Actor.{Actor}
use Rattle.hg_place.specs.declared.Handle.{Handle}
use Rattle.hg_place.specs.declared.Right.TheVariants as right
use Rattle.hg_place.specs.declared.standing.Standing.{Standing}
use Rattle.hg_machine.specs.declared.Rule.{Rule}
use Rattle.hg_machine.specs.declared.Event.TheVariants as event
use Rattle.hg_machine.specs.declared.Answer.{Answer}
use Rattle.hg_machine.specs.declared.Answer.TheVariants as answer
use Rattle.hg_machine.specs.Policy.{Policy}
use Rattle.hg_segment.specs.Kept.{Kept}
use Rattle.hg_segment.specs.Blocks.{block_at}
use Rattle.hg_agreement.specs.Agreement.{Ties}
use Rattle.hg_agreement.proofs.Reading.{read_is_tied}
use Rattle.hg_heap.specs.Ties.{heap_view, shown_at, HeapTies, Stepped}
use Rattle.hg_heap.specs.Answers.{read_answer}
use Rattle.hg_heap.specs.Stays.{Looked}
use Rattle.hg_heap.specs.Reading.{use_denial, reached}
use Rattle.hg_heap.specs.declared.refused.Refused.{Refused}
use Rattle.hg_heap.specs.declared.refused.Refused.TheVariants as refused
use Rattle.hg_heap.proofs.Founds.{Found}
use Rattle.hg_heap.proofs.FoundHoldings.{block_found}
use Rattle.hg_heap.proofs.Looking.{FitsLaw, stepped, ends, refused_ends, block_here, block_after}
use Rattle.hg_heap.proofs.Looking.{denied_reach, outside_reach, inside_reach}

module _ {S : Type 0} (number : S → ℕ) (records : S → List Standing) (shows : S → ℕ → ℕ → Type 0)
    (steps : S → ℕ → ℕ → ℕ → S → Type 0) (fits : FitsLaw number records shows steps)
    (policy : Policy) (items : List (Kept S)) (found word index : ℕ) (actor : Actor)
    (handle : Handle) (one after : Kept S)
    (here : Found number items handle.place.segment found one)
    (looked : Looked number records shows steps handle.place word one after)
    (words : after.words ≡ one.words) where
  abbrev block : List ℕ
  block = block_at one.words one.classes handle.place.page handle.place.index

  abbrev denial : Option Rule
  denial = use_denial policy actor.0 right.Read handle word

  abbrev TiedSo : Answer → Type 0
  TiedSo a = HeapTies number records policy (shown_at handle.place word)
      (shown_at handle.place word) (event.Read actor handle index) a items
      (slice_set items found after)

  value_tied : denial ≡ None → index < length block
      → TiedSo (answer.Value (slice_index block index))
  value_tied none in_it = ends here looked words policy (event.Read actor handle index)
      (answer.Value (slice_index block index)) (λ w h g below.
      let view = heap_view number records policy w h g items in
      let shown = shown_at handle.place word in
      subst (λ (b : List ℕ). Ties view shown (event.Read actor handle index)
      (answer.Value (slice_index b index)) view shown)
      (block_found number records items handle.place found one here
      ∙ block_here fits policy actor.0 right.Read handle looked none)
      (read_is_tied view shown actor handle index below refl
      (inside_reach fits policy actor.0 right.Read handle here looked index none in_it w h g)))

  read_by : (o : Option Rule) → denial ≡ o
      → TiedSo (read_answer (reached o block index (slice_index block index)))
  read_by (Some rule) e = refused_ends here looked words policy (event.Read actor handle index)
      (answer.Denied rule)
      (λ w h g. refl)
      (denied_reach fits policy actor.0 right.Read handle here looked index rule e)
  read_by None e = elim (cases_lt index (length block))
      as (λ _. TiedSo (read_answer (reached None block index (slice_index block index)))) [
        | inl lt ↦ subst (λ (b : Bool). TiedSo
            (read_answer (cond b (Ok (slice_index block index)) (Err refused.OutOfBlock))))
            (sym (lt-ltb index (length block) lt)) (value_tied e lt)
        | inr ge ↦ subst (λ (b : Bool). TiedSo
            (read_answer (cond b (Ok (slice_index block index)) (Err refused.OutOfBlock))))
            (sym (le-ltb index (length block) ge))
            (refused_ends here looked
            words policy (event.Read actor handle index) answer.OutOfBlock (λ w h g. refl)
            (outside_reach fits policy actor.0 right.Read handle here looked index e ge))
      ]

  -- by the block of the segment after the look
  pub read_tied : (result : Result ℕ Refused)
      → result ≡ reached denial (block_at after.words after.classes handle.place.page
      handle.place.index) index (slice_index
      (block_at after.words after.classes handle.place.page handle.place.index) index)
      → TiedSo (read_answer result)
  read_tied result is = subst (λ (r : Result ℕ Refused). TiedSo (read_answer r))
      (sym (is ∙ ap (λ (b : List ℕ). reached denial b index (slice_index b index))
      (block_after here looked
      words))) (read_by denial refl)

  pub read_ends : (result : Result ℕ Refused)
      → result ≡ reached denial (block_at after.words after.classes handle.place.page
      handle.place.index) index (slice_index
      (block_at after.words after.classes handle.place.page handle.place.index) index)
      → (x : ℕ) × Stepped number shows steps handle.place x x items (slice_set items found after)
      × HeapTies number records policy (shown_at handle.place x) (shown_at handle.place x)
      (event.Read actor handle index) (read_answer result) items (slice_set items found after)
  read_ends result is = (
    word,
    stepped here looked,
    read_tied result is,
  )
