-- A block of a segment that the worker doesn't hold is refused by the verdict on its word, else as one that is
-- elsewhere.
use Rattle.std.specs.Prelude.{nat_lt}
use Rattle.std.proofs.Common.{◌≡◌, ◌<◌, ℕ, Bool, true, false, arith, is_some, not, List, [], ◌∷◌, length, Option, Some, None, refl, ap, subst, sym, ◌∙◌}
use Rattle.std.proofs.lemmas.Option.{slice_get_within}
use Rattle.hg_place.specs.declared.Actor.{Actor}
use Rattle.hg_place.specs.declared.Handle.{Handle}
use Rattle.hg_place.specs.declared.Place.{Place}
use Rattle.hg_place.specs.declared.Right.{Right}
use Rattle.hg_place.specs.Places.{number_of}
use Rattle.hg_place.specs.Slots.{slot_in}
use Rattle.hg_machine.specs.declared.Answer.{Answer}
use Rattle.hg_machine.specs.declared.Answer.TheVariants as answer
use Rattle.hg_machine.specs.declared.Event.TheVariants as event
use Rattle.hg_machine.specs.declared.Rule.{Rule}
use Rattle.hg_machine.specs.Policy.{Policy, arena_of}
use Rattle.hg_machine.specs.Refusal.{denial_or}
use Rattle.hg_agreement.specs.Seen.{reach_in, refusal_in}
use Rattle.hg_heap.specs.Answers.{away_answer, list_denial}
use Rattle.hg_heap.specs.Held.{is_held}
use Rattle.hg_heap.specs.Reading.{use_denial}
use Rattle.hg_heap.proofs.Options.{some_of}
use Rattle.hg_heap.proofs.ViewRoom.{view_holds}
use Rattle.hg_roles.specs.Served.{places_of_policy}
use Rattle.hg_run_worker.specs.AtWork.{number_in, records_in, view_in}
use Rattle.hg_run_worker.specs.declared.worker.RunWorker.{RunWorker}

by_denial : (denial : Option Rule) (rest : List (Bool × Answer))
    → denial_or denial ((not false, answer.Elsewhere) ∷ rest) ≡ Some (away_answer denial)
by_denial None rest = refl
by_denial (Some rule) rest = refl

pub out_of_reach : (worker : RunWorker) (actor : ℕ) (right : Right) (handle : Handle) (index word : ℕ)
    → is_held number_in worker.heap.segments handle.place.segment ≡ false
    → reach_in (view_in worker) (slot_in word) actor right handle index
    ≡ Some (away_answer (use_denial worker.policy actor right handle word))
out_of_reach worker actor right handle index word away =
    ap
    (λ (b : Bool).
    denial_or (use_denial worker.policy actor right handle word)
    ((not b, answer.Elsewhere)
    ∷ (not (nat_lt index (length ((view_in worker).block (number_of handle.place)))), answer.OutOfBlock)
    ∷ []))
    (view_holds number_in records_in worker.heap.segments handle.place.segment ∙ away)
    ∙ by_denial (use_denial worker.policy actor right handle word) _

pub out_of_sight : (worker : RunWorker) (actor : Actor) (place : Place) (word : ℕ)
    → is_held number_in worker.heap.segments place.segment ≡ false
    → refusal_in (view_in worker) (slot_in word) (event.Look actor place)
    ≡ Some (away_answer (list_denial worker.policy actor place word))
out_of_sight worker actor place word away =
    ap
    (λ (b : Bool).
    denial_or (list_denial worker.policy actor place word) ((not b, answer.Elsewhere) ∷ []))
    (view_holds number_in records_in worker.heap.segments place.segment ∙ away)
    ∙ by_denial (list_denial worker.policy actor place word) []

-- the place of a segment of the policy has a word in the table
pub place_within : (policy : Policy) (place : Place) → is_some (arena_of policy place.segment) ≡ true
    → number_of place < places_of_policy policy
place_within policy place there =
    let arena = some_of (arena_of policy place.segment) there in
    let inside = slice_get_within policy.segments place.segment arena.0 arena.1 in
    let a = place.page_below in
    let b = place.index_below in
    omega (arith, inside, a, b)
