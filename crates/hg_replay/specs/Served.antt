-- What one event of a line comes to.
use Rattle.std.specs.Prelude.{ℕ}
use Rattle.hg_machine.specs.Lists.{Kept}
use Rattle.hg_machine.specs.declared.Event.{Event}
use Rattle.hg_machine.specs.declared.Answer.{Answer}
use Rattle.hg_choice.specs.ChosenSteps.{ChosenStep}
use Rattle.hg_replay.specs.declared.replaying.output.Output.{Output}
use Rattle.hg_replay.specs.Sinks.{Seen}
use Rattle.hg_replay.specs.Text.{answer_line}
use Rattle.hg_replay.specs.Writes.{Emits}

-- from what is kept the event is answered so, and the answer's line is given to be written
pub record Served (old : Kept) (worker : ℕ) (event : Event) (answer : Answer) (new : Kept)
    (seen : Seen) (from : Output) (seen' : Seen) (to : Output) : Type 0 where
  pub chosen : ChosenStep old worker event answer new
  pub given : Emits seen from seen' to (answer_line old.state.policy answer)
