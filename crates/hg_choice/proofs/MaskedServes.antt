-- An event is refused or served in a state with hidden words as in that state.
use Rattle.std.proofs.Common.{◌≡◌, ℕ, ◌+◌, ◌&&◌, Bool, not, is_some, nat_lt, if◌then◌else◌, ◌∷◌, []}
use Rattle.std.proofs.Common.{length, get_or, Some, None, refl, sym, ap, ◌∙◌, max}
use Rattle.std.specs.List.{count_by}
use Rattle.hg_place.specs.declared.Right.{Right}
use Rattle.hg_place.specs.declared.Right.TheVariants as right
use Rattle.hg_place.specs.declared.Handle.{Handle}
use Rattle.hg_place.specs.declared.Place.{Place}
use Rattle.hg_place.specs.Places.{number_of, segment_of, segment_of_page}
use Rattle.hg_machine.specs.declared.Event.{Event}
use Rattle.hg_machine.specs.declared.Event.TheVariants as event
use Rattle.hg_machine.specs.declared.Answer.{Answer}
use Rattle.hg_machine.specs.declared.Answer.TheVariants as answer
use Rattle.hg_machine.specs.declared.AllocVerdict.{AllocVerdict}
use Rattle.hg_machine.specs.declared.AllocVerdict.TheVariants as alloc
use Rattle.hg_machine.specs.declared.Row.{Row}
use Rattle.hg_machine.specs.Life.{contents_of}
use Rattle.hg_machine.specs.State.{State, record_at, class_at, hand_of, places_in, pages_in}
use Rattle.hg_machine.specs.Holders.{holds}
use Rattle.hg_machine.specs.Charge.{charge}
use Rattle.hg_machine.specs.Denial.{denial}
use Rattle.hg_machine.specs.Request.{words_for, alloc_verdict, size_of}
use Rattle.hg_machine.specs.Refusal.{refusal, alloc_refusal, denial_or, reach_refusal}
use Rattle.hg_machine.specs.Sweeps.{is_sent_to}
use Rattle.hg_machine.specs.Served.{IsServed, IsNext, IsRow}
use Rattle.hg_choice.specs.Masks.{masked, is_hidden}
use Rattle.hg_choice.proofs.MaskedFacts.{at_place, same_generation, same_length, same_owner}
use Rattle.hg_choice.proofs.MaskedFacts.{same_bytes, same_room, same_has_room, same_charge}
use Rattle.hg_choice.proofs.MaskedFacts.{same_denial, same_sent_to, same_idle, same_places}
use Rattle.hg_choice.proofs.MaskedLives.{life_word}

-- the value of a word, 0 where it is hidden
abbrev pub masked_value : Bool → ℕ → ℕ
masked_value b value = if b then 0 else value

abbrev pub with_value : Bool → Answer → Answer
with_value b (answer.Value value) = answer.Value (masked_value b value)
with_value b a = a

-- an event and an answer with 0 for the value of a hidden word
abbrev pub masked_event : (ℕ → Bool) → Event → Event
masked_event hidden (event.Write actor handle index value) =
    event.Write actor handle index (masked_value (hidden (number_of handle.place)) value)
masked_event hidden e = e

abbrev pub masked_answer : (ℕ → Bool) → Event → Answer → Answer
masked_answer hidden (event.Read actor handle index) a =
    with_value (hidden (number_of handle.place)) a
masked_answer hidden e a = a

module _ (hides : ℕ → ℕ → Bool) where
  alloc_same : (s : State) (w arena : ℕ) (v : AllocVerdict)
      → alloc_refusal (masked hides s) w arena v ≡ alloc_refusal s w arena v
  alloc_same s w arena (alloc.Denied rule) = refl
  alloc_same s w arena alloc.TooLarge = refl
  alloc_same s w arena (alloc.Fits size) =
      ap (λ b. if b then None else Some answer.NoRoom) (same_has_room hides s w arena size)

  reach_same : (s : State) (w actor : ℕ) (right : Right) (handle : Handle) (index : ℕ)
      → reach_refusal (masked hides s) w actor right handle index
      ≡ reach_refusal s w actor right handle index
  reach_same s w actor right handle index =
      let away = not (holds s w handle.place.segment) in
      ap (λ d. denial_or d ((away, answer.Elsewhere)
      ∷ (
        not (nat_lt index (length (contents_of
            (record_at (masked hides s) (number_of handle.place)).life))),
        answer.OutOfBlock,
      ) ∷ []))
      (same_denial hides s actor right handle.place handle.generation)
      ∙ ap (λ n. denial_or (denial s actor right handle.place handle.generation)
      ((away, answer.Elsewhere) ∷ (not (nat_lt index n), answer.OutOfBlock) ∷ []))
      (same_length hides s (number_of handle.place))

  pub same_refusal : (s : State) (w : ℕ) (e : Event)
      → refusal (masked hides s) w (masked_event (is_hidden hides s) e) ≡ refusal s w e
  same_refusal s w (event.Alloc actor arena bytes) =
      alloc_same s w arena (alloc_verdict s.policy actor.0 arena (words_for bytes)
      (charge (masked hides s) w actor.0))
      ∙ ap (λ c. alloc_refusal s w arena (alloc_verdict s.policy actor.0 arena (words_for bytes) c))
      (same_charge hides s w actor.0)
  same_refusal s w (event.Free actor handle) =
      ap (λ d. denial_or d ((
        not (holds s w handle.place.segment)
            && is_some (hand_of s w),
        answer.Busy,
      ) ∷ []))
      (same_denial hides s actor.0 right.Free handle.place handle.generation)
  same_refusal s w event.Deliver = refl
  same_refusal s w (event.Take segment) = refl
  same_refusal s w event.Collect = refl
  same_refusal s w (event.Read actor handle index) = reach_same s w actor.0 right.Read handle index
  same_refusal s w (event.Write actor handle index value) =
      reach_same s w actor.0 right.Write handle index
  same_refusal s w (event.Look actor place) =
      let reasons = (not (holds s w place.segment), answer.Elsewhere) ∷ [] in
      ap (λ d. denial_or d reasons) (same_denial hides s actor.0 right.List place
      (max 1 (record_at (masked hides s) (number_of place)).generation))
      ∙ ap (λ g. denial_or (denial s actor.0 right.List place (max 1 g)) reasons)
      (same_generation hides s (number_of place))
  same_refusal s w (event.Abandon segment) = refl
  same_refusal s w (event.Refill arena) = refl

  next_same : (s : State) (w arena size : ℕ) (handle : Handle) → IsNext s w arena size handle
      → IsNext (masked hides s) w arena size handle
  next_same s w arena size handle is = record {
    room = same_room hides s w arena size (number_of handle.place) ∙ is.room;
    next = is.next ∙ ap (λ g. g + 1) (sym (same_generation hides s (number_of handle.place)));
  }

  row_same : (s : State) (place : Place) (row : Row) → IsRow s place row
      → IsRow (masked hides s) place row
  row_same s place row is = record {
    stands = is.stands;
    generation = is.generation ∙ sym (same_generation hides s (number_of place));
    owner = is.owner ∙ sym (same_owner hides s (number_of place));
    bytes = is.bytes ∙ sym (same_bytes hides s (number_of place));
  }

  pub same_served : (s : State) (w : ℕ) (e : Event) (a : Answer) → IsServed s w e a
      → IsServed (masked hides s) w (masked_event (is_hidden hides s) e)
      (masked_answer (is_hidden hides s) e a)
  same_served s w (event.Alloc actor arena bytes) a g =
      (g.0, g.1, next_same s w arena (size_of bytes) g.0 g.2)
  same_served s w (event.Free actor handle) a is = is
  same_served s w event.Deliver a is = is
  same_served s w (event.Take segment) a is =
      is
      ∙ ap (λ ps. answer.Taken (count_by (is_sent_to s segment) ps)) (sym (same_places hides s))
      ∙ ap (λ f. answer.Taken (count_by f (places_in (masked hides s))))
      (sym (same_sent_to hides s segment))
  same_served s w event.Collect a is =
      is
      ∙ ap (λ f. answer.Pages (count_by (λ page. holds s w (segment_of_page page)
      && (f page && is_some (class_at s page))) (pages_in s))) (sym (same_idle hides s))
  same_served s w (event.Read actor handle index) a is =
      let p = number_of handle.place in
      ap (with_value (is_hidden hides s p)) is
      ∙ ap answer.Value (sym (ap (λ r. get_or (contents_of r.life) index 0) (at_place hides s p)
      ∙ life_word hides (segment_of p) (record_at s p).life index))
  same_served s w (event.Write actor handle index value) a is = is
  same_served s w (event.Look actor place) a g = (g.0, g.1, row_same s place g.0 g.2)
  same_served s w (event.Abandon segment) a is = is
  same_served s w (event.Refill arena) a g = g
