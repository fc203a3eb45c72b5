-- A write, tied.
use Rattle.std.proofs.Common.{◌≡◌, ◌≢◌, ℕ, ◌+◌, ◌*◌, ◌<◌, ◌⊎◌, Bool, List, length}
use Rattle.std.proofs.Common.{Option, Some, None, refl, sym, ap, subst, ◌∙◌, slice_set, inl, inr}
use Rattle.std.proofs.Common.{cond}
use Rattle.std.specs.Prelude.{Result, Ok, Err, OnOk, OnErr}
use Rattle.std.proofs.lemmas.Bool.{cases_eq, cases_lt, lt-ltb, le-ltb}
use Rattle.hg_place.specs.declared.Actor.{Actor}
use Rattle.hg_place.specs.declared.Handle.{Handle}
use Rattle.hg_place.specs.declared.Right.TheVariants as right
use Rattle.hg_place.specs.declared.standing.Standing.{Standing}
use Rattle.hg_place.specs.Standings.{slot_of, standing_at, is_home}
use Rattle.hg_place.specs.Places.{number_of}
use Rattle.hg_machine.specs.declared.Rule.{Rule}
use Rattle.hg_machine.specs.declared.Event.TheVariants as event
use Rattle.hg_machine.specs.declared.Answer.{Answer}
use Rattle.hg_machine.specs.declared.Answer.TheVariants as answer
use Rattle.hg_machine.specs.Policy.{Policy}
use Rattle.hg_segment.specs.Kept.{Kept}
use Rattle.hg_segment.specs.Blocks.{block_at, KeepsOtherBlocks}
use Rattle.hg_agreement.specs.Agreement.{Ties}
use Rattle.hg_agreement.specs.Changed.{put}
use Rattle.hg_agreement.specs.Holdings.{block_of}
use Rattle.hg_agreement.proofs.Puts.{write_is_tied}
use Rattle.hg_heap.specs.Ties.{holding, heap_view, shown_at, HeapTies, Stepped}
use Rattle.hg_heap.specs.Answers.{done_answer}
use Rattle.hg_heap.specs.Stays.{Looked}
use Rattle.hg_heap.specs.Reading.{use_denial, reached}
use Rattle.hg_heap.specs.declared.refused.Refused.{Refused}
use Rattle.hg_heap.specs.declared.refused.Refused.TheVariants as refused
use Rattle.hg_heap.proofs.Founds.{Found}
use Rattle.hg_heap.proofs.FoundHoldings.{block_found, standing_found}
use Rattle.hg_heap.proofs.OpenBlocks.{block_is}
use Rattle.hg_heap.proofs.Putting.{IsChangedAt, put_ties}
use Rattle.hg_heap.proofs.Looking.{FitsLaw, stepped, refused_ends, block_here, open_after}
use Rattle.hg_heap.proofs.Looking.{classes_kept, denied_reach, outside_reach, inside_reach}

module _ {S : Type 0} (number : S → ℕ) (records : S → List Standing) (shows : S → ℕ → ℕ → Type 0)
    (steps : S → ℕ → ℕ → ℕ → S → Type 0) (fits : FitsLaw number records shows steps)
    (policy : Policy) (items : List (Kept S)) (found word index value : ℕ) (actor : Actor)
    (handle : Handle) (one last : Kept S)
    (here : Found number items handle.place.segment found one)
    (looked : Looked number records shows steps handle.place word one last) where
  abbrev block : List ℕ
  block = block_at one.words one.classes handle.place.page handle.place.index

  abbrev denial : Option Rule
  denial = use_denial policy actor.0 right.Write handle word

  abbrev TiedSo : Answer → Type 0
  TiedSo a = HeapTies number records policy (shown_at handle.place word)
      (shown_at handle.place word) (event.Write actor handle index value) a items
      (slice_set items found last)

  abbrev block_last : List ℕ
  block_last = block_at last.words one.classes handle.place.page handle.place.index

  abbrev KeepsOthers : Type 0
  KeepsOthers = KeepsOtherBlocks (records one.slots) one.classes handle.place.page
      handle.place.index one.words last.words

  classes_last : last.classes ≡ one.classes
  classes_last = classes_kept here looked

  apart : (page index page' index' : ℕ) → page * 512 + index ≢ page' * 512 + index'
      → (page ≢ page') ⊎ (index ≢ index')
  apart page index page' index' ne = elim (cases_eq page page') [
    | inl e ↦ inr (λ i. ne (ap (λ (n : ℕ). n * 512 + index) e ∙ ap (λ (n : ℕ). page' * 512 + n) i))
    | inr out ↦ inl out
  ]

  changed : KeepsOthers → IsChangedAt number records one last (slot_of handle.place)
  changed others = record {
    number_kept = looked.same_number;
    classes = classes_last;
    standings = λ other below ne. ap (λ (rs : List Standing). standing_at rs other)
        looked.same_records;
    blocks = λ page index low small ne away.
        others page index low small
        (sym (ap (λ (rs : List Standing). is_home (standing_at rs (page * 512 + index)))
        looked.same_records) ∙ away) (apart page index handle.place.page handle.place.index ne);
  }

  done_tied : denial ≡ None → index < length block → KeepsOthers
      → block_last ≡ slice_set block index value → TiedSo answer.Done
  done_tied none in_it others written w h g below =
      let view = heap_view number records policy w h g items in
      let shown = shown_at handle.place word in
      let p = number_of handle.place in
      let standing : view.standing p ≡ standing_at (records last.slots) (slot_of handle.place) =
      standing_found number records items handle.place found one here
      ∙ ap (λ (rs : List Standing). standing_at rs (slot_of handle.place))
      (sym looked.same_records) in
      let open_last = open_after fits policy actor.0 right.Write handle looked none in
      let block_now : slice_set (view.block p) index value ≡ block_of (holding number records last)
      (slot_of handle.place) =
      ap (λ (ws : List ℕ). slice_set ws index value)
      (block_found number records items handle.place found one here
      ∙ block_here fits policy actor.0 right.Write handle looked none)
      ∙ sym written
      ∙ ap (λ (cs : List (Option ℕ)). block_at last.words cs handle.place.page handle.place.index)
      (sym classes_last)
      ∙ sym (block_is number records last handle.place.page handle.place.index
      handle.place.index_below open_last) in
      let ties = write_is_tied view shown actor handle index value below refl
      (inside_reach fits policy actor.0 right.Write handle here looked index none in_it w h g) in
      put_ties number records items found handle.place one last here
      (changed others) policy w h g shown shown
      (event.Write actor handle index value) answer.Done
      (subst (λ (b : List ℕ). Ties view shown (event.Write actor handle index value) answer.Done
      (put view p (standing_at (records last.slots) (slot_of handle.place)) b) shown) block_now
      (subst (λ (s : Standing). Ties view shown (event.Write actor handle index value) answer.Done
      (put view p s (slice_set (view.block p) index value)) shown) standing ties))

  -- what a write left, by what it answers
  abbrev Wrote : Result (Unit {0}) Refused → Type 0
  Wrote result = OnErr result (last.words ≡ one.words)
      × OnOk result (block_last ≡ slice_set block index value) × OnOk result KeepsOthers

  write_undenied : denial ≡ None → Wrote (reached None block index (tt {0}))
      → TiedSo (done_answer (reached None block index (tt {0})))
  write_undenied e = elim (cases_lt index (length block))
      as (λ _. Wrote (reached None block index (tt {0}))
      → TiedSo (done_answer (reached None block index (tt {0})))) [
        | inl lt ↦ subst (λ (b : Bool). Wrote (cond b (Ok (tt {0})) (Err refused.OutOfBlock))
            → TiedSo (done_answer (cond b (Ok (tt {0})) (Err refused.OutOfBlock))))
            (sym (lt-ltb index (length block) lt))
            (λ wrote. done_tied e lt wrote.2 wrote.1)
        | inr ge ↦ subst (λ (b : Bool). Wrote (cond b (Ok (tt {0})) (Err refused.OutOfBlock))
            → TiedSo (done_answer (cond b (Ok (tt {0})) (Err refused.OutOfBlock))))
            (sym (le-ltb index (length block) ge))
            (λ wrote. refused_ends here looked wrote.0 policy (event.Write actor handle index
            value) answer.OutOfBlock
            (λ w h g. refl)
            (outside_reach fits policy actor.0 right.Write handle here looked index e ge))
      ]

  write_by : (o : Option Rule) → denial ≡ o → Wrote (reached o block index (tt {0}))
      → TiedSo (done_answer (reached o block index (tt {0})))
  write_by (Some rule) e wrote = refused_ends here looked wrote.0 policy (event.Write actor handle
      index value)
      (answer.Denied rule) (λ w h g. refl)
      (denied_reach fits policy actor.0 right.Write handle here looked index rule e)
  write_by None e wrote = write_undenied e wrote

  pub write_ends : (result : Result (Unit {0}) Refused)
      → result ≡ reached denial block index (tt {0})
      → OnErr result (last.words ≡ one.words)
      → OnOk result (block_last ≡ slice_set block index value) → OnOk result KeepsOthers
      → (x : ℕ) × Stepped number shows steps handle.place x x items (slice_set items found last)
      × HeapTies number records policy (shown_at handle.place x) (shown_at handle.place x)
      (event.Write actor handle index value) (done_answer result) items
      (slice_set items found last)
  write_ends result is err ok others = (
    word,
    stepped here looked,
    subst (λ (r : Result (Unit {0}) Refused). TiedSo (done_answer r)) (sym is)
        (write_by denial refl (subst Wrote is (err, ok, others))),
  )
