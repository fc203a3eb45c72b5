-- Runs whose states are computed.
use Rattle.std.proofs.Common.{ℕ, List, [], ◌∷◌, refl}
use Rattle.hg_machine.specs.declared.Event.{Event}
use Rattle.hg_machine.specs.declared.Answer.{Answer}
use Rattle.hg_machine.specs.State.{State}
use Rattle.hg_machine.specs.Steps.{Step, Run, successor}
use Rattle.hg_rows.specs.Answers.{Answers}

-- each answer is the machine's in the state that those before it leave
abbrev pub Holds : State → List (ℕ × Event) → List Answer → Type 0
Holds s [] [] = Unit {0}
Holds s (e ∷ es) (a ∷ rest) =
    Step s e.0 e.1 a (successor s e.0 e.1 a) × Holds (successor s e.0 e.1 a) es rest
Holds s [] (a ∷ rest) = ⊥
Holds s (e ∷ es) [] = ⊥

ends : (s : State) (events : List (ℕ × Event)) (answers : List Answer) → Holds s events answers
    → (last : State) × Run s events answers last
ends s [] [] h = (s, refl)
ends s (e ∷ es) (a ∷ rest) h =
    let later = ends (successor s e.0 e.1 a) es rest h.1 in
    (later.0, (successor s e.0 e.1 a, h.0, later.1))
ends s [] (a ∷ rest) h = absurd h
ends s (e ∷ es) [] h = absurd h

pub answered : {s : State} {events : List (ℕ × Event)} {answers : List Answer}
    → Holds s events answers → Answers s events answers
answered {s} {events} {answers} h =
    let e = ends s events answers h in record { last = e.0; run = e.1 }
