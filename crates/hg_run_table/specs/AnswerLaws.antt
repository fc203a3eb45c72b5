-- When a step may answer what a worker is asked, and which call the answer is.
use Rattle.std.specs.Prelude.{◌≡◌, ℕ, true, false, List, [], ◌∷◌, map, Some}
use Rattle.hg_machine.specs.declared.Event.{Event}
use Rattle.hg_machine.specs.declared.Answer.{Answer}
use Rattle.hg_machine.specs.Policy.{Policy}
use Rattle.hg_agreement.specs.Views.{View}
use Rattle.hg_agreement.specs.Agreement.{Ties}
use Rattle.hg_frame.specs.SlotWords.{changes_word}
use Rattle.hg_history.specs.Service.{IsIn}
use Rattle.hg_roles.specs.Deciding.{IsSeatOf, called, is_own}
use Rattle.hg_roles.specs.Roles.{Call, Role}
use Rattle.hg_run_table.specs.declared.part.Part.{Part}
use Rattle.hg_run_table.specs.Asked.{IsWorkerAsked, MayAnswer, IsAnswered, is_worker}
use Rattle.hg_run_table.specs.Seated.{HaveRoles}

-- a seat has these roles, one of them a worker's, which is asked one event next, and then the rest
pub record AsksOne
    (run : List Part) (roles : List Role) (before : View) (log : List Call) (e : Event)
    (rest : List (List Event))
    : Type 0 where
  pub has : HaveRoles run roles
  pub seat : IsSeatOf before log roles
  pub asked : IsWorkerAsked before.worker ((e ∷ []) ∷ rest) run

-- where a call by it, which the worker decides alone and which changes no word but that of the place,
-- is tied at the word that a step finds, the step may answer it
abbrev pub TiesMayAnswer : Type 0
TiesMayAnswer =
    (policy : Policy) (place word left : ℕ) (run : List Part) (roles : List Role)
    (log : List Call) (before after : View) (e : Event) (a : Answer) (rest : List (List Event))
    → AsksOne run roles before log e rest → is_own e ≡ true
    → ((other : ℕ) → changes_word e a other ≡ true → other ≡ place)
    → Ties before (Some (record { place = place; word = word })) e a after
    (Some (record { place = place; word = left }))
    → MayAnswer policy place word left run

-- where no answer to it changes a word, as of a Read, a Write, a Look and a Collect, any look may
-- answer it
abbrev pub LooksMayAnswer : Type 0
LooksMayAnswer =
    (policy : Policy) (place word : ℕ) (run : List Part) (roles : List Role) (log : List Call)
    (before : View) (e : Event) (rest : List (List Event))
    → AsksOne run roles before log e rest → is_own e ≡ true
    → ((a : Answer) (other : ℕ) → changes_word e a other ≡ false)
    → MayAnswer policy place word word run

-- the seat after the call: its worker's part has it in its log, has what it leaves, and is asked the
-- rest; each other part is as it was
pub record IsAnsweredBy
    (old new : List Part) (roles : List Role) (before after : View) (call : Call)
    (rest : List (List Event))
    : Type 0 where
  pub has : HaveRoles new (map (called after call) roles)
  pub asked : IsWorkerAsked before.worker rest new
  pub others :
      (j : ℕ) (part : Part) → IsIn new j part → is_worker before.worker part.name ≡ false
      → IsIn old j part

-- and where such a call is tied, whatever step has answered it there has made this call
abbrev pub AnswersAreTheCalls : Type 0
AnswersAreTheCalls =
    (place word left : ℕ) (old new : List Part) (roles : List Role) (log : List Call)
    (before after : View) (e : Event) (a : Answer) (rest : List (List Event))
    → AsksOne old roles before log e rest → after.worker ≡ before.worker
    → IsAnswered place word left old new
    → ((other : ℕ) → changes_word e a other ≡ true → other ≡ place)
    → Ties before (Some (record { place = place; word = word })) e a after
    (Some (record { place = place; word = left }))
    → IsAnsweredBy old new roles before after (e, a) rest
