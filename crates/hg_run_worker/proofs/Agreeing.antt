-- The state that agreed with a worker as its step was made.
use Rattle.std.proofs.Common.{ℕ, List, [], ◌∷◌, Some, None, refl}
use Rattle.hg_machine.specs.Shown.{IsShownBy}
use Rattle.hg_machine.specs.State.{State, record_at}
use Rattle.hg_agreement.specs.Agreement.{Agrees}
use Rattle.hg_agreement.specs.Views.{View}
use Rattle.hg_place.specs.declared.Place.{Place}
use Rattle.hg_place.specs.Places.{number_of}
use Rattle.hg_heap.specs.Ties.{shown_at}
use Rattle.hg_roles.specs.Roles.{Call, of_worker}
use Rattle.hg_run_table.specs.declared.part.Part.{Part}
use Rattle.hg_run_table.specs.Found.{IsAgreed, IsFound}
use Rattle.hg_run_table.specs.Seated.{HaveRoles}

-- it shows a word too
pub shows_too : (m : State) (view : View) (place word : ℕ) → Agrees m view None
    → IsShownBy (record_at m place) word
    → Agrees m view (Some (record { place = place; word = word }))
shows_too m view place word agrees shown = record {
  sound = agrees.sound;
  policy = agrees.policy;
  holding = agrees.holding;
  classes = agrees.classes;
  standings = agrees.standings;
  blocks = agrees.blocks;
  hand = agrees.hand;
  word = shown;
}

-- by the worker's part alone, without a word and at one
abbrev pub met_alone : (run : List Part) (view : View) (log : List Call)
    → HaveRoles run (of_worker view log ∷ []) → IsAgreed run → ((m : State) × Agrees m view None)
met_alone run view log has agreed =
    (agreed.state, agreed.agrees (of_worker view log ∷ []) has 0 (of_worker view log) refl)

pub met_at : (run : List Part) (view : View) (log : List Call) (place : Place) (word : ℕ)
    → HaveRoles run (of_worker view log ∷ []) → IsFound (number_of place) word run
    → ((m : State) × Agrees m view (shown_at place word))
unfolding IsFound
met_at run view log place word has found =
    let agreed = met_alone run view log has found.agreed in
    (agreed.0, shows_too agreed.0 view (number_of place) word agreed.1 found.shown)
