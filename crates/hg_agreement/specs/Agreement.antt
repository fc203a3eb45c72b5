-- When a state agrees with a worker and an observed word.
use Rattle.std.specs.Prelude.{◌≡◌, ℕ, true, Option, IfSome}
use Rattle.hg_place.specs.Places.{segment_of, segment_of_page}
use Rattle.hg_machine.specs.declared.Event.{Event}
use Rattle.hg_machine.specs.declared.Answer.{Answer}
use Rattle.hg_machine.specs.Life.{Life, home, live, parted, Record, contents_of}
use Rattle.hg_machine.specs.State.{State, record_at, class_at, hand_of}
use Rattle.hg_machine.specs.Holders.{holds}
use Rattle.hg_machine.specs.Steps.{Step, successor}
use Rattle.hg_machine.specs.Soundness.{IsSound}
use Rattle.hg_machine.specs.Shown.{IsShownBy}
use Rattle.hg_place.specs.declared.standing.Standing.{Standing}
use Rattle.hg_place.specs.declared.standing.Standing.TheVariants.{Home, Open}
use Rattle.hg_agreement.specs.Views.{View, Shown}

-- how a holder records a place of this generation and life: a block live or parted is open
abbrev pub standing_by : ℕ → Life → Standing
standing_by generation home = Home generation
standing_by generation (live owner words) = Open generation owner
standing_by generation (parted owner words) = Open generation owner

abbrev pub standing_of : Record → Standing
standing_of r = standing_by r.generation r.life

-- A sound state of the worker's policy, in which the worker holds what its heap holds, with the
-- same classes, standings and words of blocks; its hand is the same, and the record at the place of
-- the observed word is as the word says
pub record Agrees (m : State) (view : View) (shown : Option Shown) : Type 0 where
  pub sound : IsSound m
  pub policy : m.policy ≡ view.policy
  pub holding : (segment : ℕ) → holds m view.worker segment ≡ view.holds segment
  pub classes :
      (page : ℕ) → view.holds (segment_of_page page) ≡ true → class_at m page ≡ view.class page
  pub standings :
      (place : ℕ) → view.holds (segment_of place) ≡ true
      → standing_of (record_at m place) ≡ view.standing place
  pub blocks :
      (place : ℕ) → view.holds (segment_of place) ≡ true
      → contents_of (record_at m place).life ≡ view.block place
  pub hand : hand_of m view.worker ≡ view.hand
  pub word : IfSome shown (λ s. IsShownBy (record_at m s.place) s.word)

-- the machine steps from the state by the event with this answer, and its successor agrees
pub record Follows
    (m : State) (worker : ℕ) (event : Event) (answer : Answer) (after : View) (left : Option Shown)
    : Type 0 where
  pub step : Step m worker event answer (successor m worker event answer)
  pub agrees : Agrees (successor m worker event answer) after left

-- so it is for every state that agrees with the view before and the observed word
abbrev pub Ties : View → Option Shown → Event → Answer → View → Option Shown → Type 0
Ties before shown event answer after left =
    (m : State) → Agrees m before shown → Follows m before.worker event answer after left
