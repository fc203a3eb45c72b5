-- What holds of the events of a run and their answers.
use Rattle.std.specs.Prelude.{ℕ, List, ◌∷◌, ◌⊎◌}
use Rattle.hg_machine.specs.declared.Event.{Event}
use Rattle.hg_machine.specs.declared.Answer.{Answer}

-- some event of these was answered so
abbrev pub AtSome : (Event → Answer → Type 0) → List (ℕ × Event) → List Answer → Type 0
AtSome P (e ∷ events) (a ∷ answers) = P e.1 a ⊎ AtSome P events answers
AtSome P events answers = ⊥

-- each event of these was answered so
abbrev pub AtEach : (Event → Answer → Type 0) → List (ℕ × Event) → List Answer → Type 0
AtEach P (e ∷ events) (a ∷ answers) = P e.1 a × AtEach P events answers
AtEach P events answers = Unit {0}
