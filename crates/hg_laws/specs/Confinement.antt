-- What a read gives.
use Rattle.std.specs.Prelude.{◌≡◌, ◌⊎◌, ℕ, List, ◌∷◌}
use Rattle.hg_place.specs.declared.Handle.{Handle}
use Rattle.hg_place.specs.declared.Actor.{Actor}
use Rattle.hg_place.specs.Places.{number_of}
use Rattle.hg_machine.specs.declared.Event.{Event}
use Rattle.hg_machine.specs.declared.Event.TheVariants as event
use Rattle.hg_machine.specs.declared.Answer.{Answer}
use Rattle.hg_machine.specs.declared.Answer.TheVariants as answer
use Rattle.hg_machine.specs.Policy.{Policy}
use Rattle.hg_machine.specs.State.{State, opening}
use Rattle.hg_machine.specs.Steps.{Step, Run}
use Rattle.hg_laws.specs.Along.{AtEach}
use Rattle.hg_laws.specs.Integrity.{NamesLife}

-- a served Write of the value at this index of this life
abbrev pub Puts : ℕ → ℕ → ℕ → ℕ → Event → Answer → Type 0
Puts place generation index value (event.Write actor handle at put) a =
    NamesLife handle place generation × (at ≡ index) × (put ≡ value) × (a ≡ answer.Done)
Puts place generation index value event a = ⊥

-- none of the events puts anything there
abbrev pub NeverPut : ℕ → ℕ → ℕ → List (ℕ × Event) → List Answer → Type 0
NeverPut place generation index events answers =
    AtEach (λ e a. (value : ℕ) → Puts place generation index value e a → ⊥) events answers

-- one of them puts the value there, and none after it puts anything there
abbrev pub IsLastPut : ℕ → ℕ → ℕ → ℕ → List (ℕ × Event) → List Answer → Type 0
IsLastPut place generation index value (e ∷ events) (a ∷ answers) =
    (Puts place generation index value e.1 a × NeverPut place generation index events answers)
    ⊎ IsLastPut place generation index value events answers
IsLastPut place generation index value events answers = ⊥

-- a served read gives zero where nothing was put there in that life since the opening, and else the
-- value that was put there last
abbrev pub ReadsAreConfined : Type 0
ReadsAreConfined =
    (policy : Policy) (events : List (ℕ × Event)) (answers : List Answer) (s next : State)
    (worker : ℕ) (actor : Actor) (handle : Handle) (index value : ℕ)
    → Run (opening policy) events answers s
    → Step s worker (event.Read actor handle index) (answer.Value value) next
    → ((value ≡ 0) × NeverPut (number_of handle.place) handle.generation index events answers)
    ⊎ IsLastPut (number_of handle.place) handle.generation index value events answers
