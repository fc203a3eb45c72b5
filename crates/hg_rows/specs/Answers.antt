-- What a worked run says.
use Rattle.std.specs.Prelude.{ℕ, List}
use Rattle.hg_machine.specs.declared.Event.{Event}
use Rattle.hg_machine.specs.declared.Answer.{Answer}
use Rattle.hg_machine.specs.State.{State}
use Rattle.hg_machine.specs.Steps.{Run}

-- from the state these events of these workers may be answered so, one after another
pub record Answers (s : State) (events : List (ℕ × Event)) (answers : List Answer) : Type 0 where
  pub last : State
  pub run : Run s events answers last
