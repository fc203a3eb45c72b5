-- A call that concerns a worker and a remote list at once is what a step owes of two seats that
-- were joined.
use Rattle.std.specs.Prelude.{◌≡◌, ◌⊎◌, ℕ, ◌<◌, ◌==◌, true, List, [], ◌∷◌, ◌++◌, length, Some, None}
use Rattle.std.specs.Prelude.{if◌then◌else◌}
use Rattle.std.specs.List.{list_any}
use Rattle.hg_place.specs.Places.{segment_of}
use Rattle.hg_place.specs.Standings.{standing_generation}
use Rattle.hg_place.specs.declared.standing.Standing.TheVariants.{Home}
use Rattle.hg_machine.specs.declared.Event.TheVariants as event
use Rattle.hg_machine.specs.declared.Answer.TheVariants as answer
use Rattle.hg_machine.specs.Policy.{Policy}
use Rattle.hg_agreement.specs.Views.{View}
use Rattle.hg_history.specs.Service.{IsIn}
use Rattle.hg_history.specs.Steps.{Decides}
use Rattle.hg_roles.specs.Roles.{Call, Role, of_worker, of_remote, of_segment}
use Rattle.hg_roles.specs.Served.{running}

-- the seat of a worker that took in the one of this other part, and maybe seats of segments
pub record IsSeatWith (view : View) (log : List Call) (other : Role) (parts : List Role)
    : Type 0 where
  pub place : ℕ
  pub there : IsIn parts place (of_worker view log)
  pub second : ℕ
  pub joined : IsIn parts second other
  pub others :
      (j : ℕ) (part : Role) → IsIn parts j part
      → (part ≡ of_worker view log)
      ⊎ ((part ≡ other) ⊎ ((segment : ℕ) × (part ≡ of_segment segment)))

-- the worker's part after a call has this view, and the call in its log; seats of segments stay,
-- and the other part is this one then
abbrev pub both_called : View → Role → Call → Role → Role
both_called after left call (of_worker view log) = of_worker after (log ++ call ∷ [])
both_called after left call (of_segment segment) = of_segment segment
both_called after left call role = left

-- the places of a list, home in their generations
abbrev pub come_home : View → List ℕ → View
come_home view sent = record view {
  standing = λ place.
      if list_any (λ other. other == place) sent
      then Home (standing_generation (view.standing place))
      else view.standing place;
  block = λ place. if list_any (λ other. other == place) sent then [] else view.block place;
}

abbrev pub emptied : View → View
emptied view = record view { hand = None; hand_generation = 0 }

-- a Take of a segment that the worker holds: all places of its list come home, and are counted
abbrev pub TakesDecide : Type 0
TakesDecide =
    (policy : Policy) (words : List ℕ) (parts : List Role) (log : List Call)
    (before : View) (segment : ℕ) (sent : List ℕ)
    → IsSeatWith before log (of_remote segment sent) parts
    → before.worker < policy.workers → before.holds segment ≡ true
    → Decides (running policy)
    ((before.worker, (event.Take segment, answer.Taken (length sent))) ∷ []) words words parts
    (both_called (come_home before sent) (of_remote segment [])
    (event.Take segment, answer.Taken (length sent)))

-- a Deliver of what is in hand, to the list of its segment: it stands there then
abbrev pub DeliversDecide : Type 0
DeliversDecide =
    (policy : Policy) (words : List ℕ) (parts : List Role) (log : List Call)
    (before : View) (segment place : ℕ) (sent : List ℕ)
    → IsSeatWith before log (of_remote segment sent) parts
    → before.worker < policy.workers → before.hand ≡ Some place → segment_of place ≡ segment
    → Decides (running policy) ((before.worker, (event.Deliver, answer.Done)) ∷ []) words words
    parts
    (both_called (emptied before) (of_remote segment (place ∷ sent)) (event.Deliver, answer.Done))
