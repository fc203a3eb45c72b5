-- A Read and a Look, tied.
use Rattle.std.proofs.Common.{◌≡◌, ℕ, ◌*◌, ◌<◌, true, not, length, Option, Some, None, refl, sym}
use Rattle.std.proofs.Common.{ap, subst, ◌∙◌, nat_lt, max, is_some, slice_index}
use Rattle.std.proofs.lemmas.Bool.{not-false, true≢false, ltb-true}
use Rattle.hg_place.specs.declared.Right.{Right}
use Rattle.hg_place.specs.declared.Place.{Place}
use Rattle.hg_place.specs.declared.Handle.{Handle}
use Rattle.hg_place.specs.Places.{number_of, segment_of}
use Rattle.hg_place.specs.Slots.{Slot}
use Rattle.hg_machine.specs.declared.Row.{Row}
use Rattle.hg_machine.specs.Policy.{arena_of}
use Rattle.hg_machine.specs.State.{State, record_at}
use Rattle.hg_machine.specs.Denial.{denial_on}
use Rattle.hg_machine.specs.Served.{IsRow}
use Rattle.hg_machine.proofs.Allowed.{IsAllowed, allowed, no_denial, step}
use Rattle.hg_agreement.specs.Views.{View, Shown, slot_shown}
use Rattle.hg_agreement.specs.Agreement.{Agrees}
use Rattle.hg_machine.specs.Shown.{IsShownBy}
use Rattle.hg_agreement.specs.Seen.{IsShownAt, reach_in, IsRowIn}
use Rattle.hg_agreement.specs.Ties.{ReadIsTied, LookIsTied}
use Rattle.hg_agreement.proofs.Sees.{segment_is, same_look}
use Rattle.hg_machine.proofs.Looks.{live_used}
use Rattle.hg_agreement.proofs.Frames.{served_follows}
use Rattle.hg_place.specs.declared.Right.TheVariants as right
use Rattle.hg_machine.specs.declared.Event.TheVariants as event
use Rattle.hg_machine.specs.declared.Answer.TheVariants as answer

-- what isn't refused is held, and the index is in the block
pub record IsReached (view : View) (slot : Slot) (actor : ℕ) (right : Right) (handle : Handle)
    (index : ℕ) : Type 0 where
  pub undenied : denial_on view.policy actor right handle.place.segment handle.generation slot
      ≡ None
  pub held : view.holds (segment_of (number_of handle.place)) ≡ true
  pub inside : index < length (view.block (number_of handle.place))

pub reached : (view : View) (slot : Slot) (actor : ℕ) (right : Right) (handle : Handle) (index : ℕ)
    → reach_in view slot actor right handle index ≡ None
    → IsReached view slot actor right handle index
reached view slot actor right handle index e =
    let d = no_denial (denial_on view.policy actor right handle.place.segment handle.generation
    slot) _ e in
    let s1 = step (not (view.holds handle.place.segment)) answer.Elsewhere _ d.1 in
    let s2 = step (not (nat_lt index (length (view.block (number_of handle.place)))))
    answer.OutOfBlock _ s1.1 in
    record {
      undenied = d.0;
      held = ap view.holds (segment_is handle.place) ∙ not-false _ s1.0;
      inside = ltb-true _ _ (not-false _ s2.0);
    }

pub read_is_tied : ReadIsTied
read_is_tied view shown actor handle index below at none m agrees =
    let p = number_of handle.place in
    let r = reached view (slot_shown shown) actor.0 right.Read handle index none in
    served_follows m view view shown shown (event.Read actor handle index)
    (answer.Value (slice_index (view.block p) index)) below agrees at none
    (ap (λ ws. answer.Value (slice_index ws index)) (sym (agrees.blocks p r.held)))
    (λ sound. agrees)

-- the row that the view and the word tell is the row of the state
row_of : (m : State) (view : View) (shown : Option Shown) (place : Place) (row : Row) (expected : ℕ)
    → Agrees m view shown → IsShownAt view place shown → IsAllowed m place expected
    → view.holds place.segment ≡ true → IsRowIn view (slot_shown shown) place row
    → IsRow m place row
row_of m view None place row expected agrees at ok held is =
    absurd (true≢false (sym ok.segment
    ∙ ap is_some (ap (λ p. arena_of p place.segment) agrees.policy ∙ at)))
row_of m view (Some shown) place row expected agrees at ok held is =
    let p = number_of place in
    let here : IsShownBy (record_at m p) shown.word =
    subst (λ n. IsShownBy (record_at m n) shown.word) at agrees.word in
    record {
      stands = is.stands;
      generation = is.generation ∙ here.generation;
      owner = is.owner ∙ here.owner (live_used _ ok.alive);
      bytes = is.bytes
          ∙ ap (λ ws. 8 * length ws)
          (sym (agrees.blocks p (ap view.holds (segment_is place) ∙ held)));
    }

pub look_is_tied : LookIsTied
look_is_tied view shown actor place row below at none is m agrees =
    let slot = slot_shown shown in
    let d = no_denial (denial_on view.policy actor.0 right.List place.segment
    (max 1 slot.generation) slot) _ none in
    let s1 = step (not (view.holds place.segment)) answer.Elsewhere _ d.1 in
    let g = max 1 (record_at m (number_of place)).generation in
    let ok : IsAllowed m place g =
    allowed m actor.0 right.List place g (same_look m view shown actor.0 right.List place agrees
    at ∙ d.0) in
    served_follows m view view shown shown (event.Look actor place) (answer.Listed row) below agrees
    at none
    (row, refl, row_of m view shown place row g agrees at ok (not-false _ s1.0) is)
    (λ sound. agrees)
