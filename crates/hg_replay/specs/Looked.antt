-- What a listing of some places gives to be written.
use Rattle.std.specs.Prelude.{◌≡◌, ℕ, List, filter, length}
use Rattle.hg_place.specs.declared.Actor.{Actor}
use Rattle.hg_machine.specs.Lists.{Kept}
use Rattle.hg_machine.specs.declared.Answer.{Answer}
use Rattle.hg_choice.specs.ChosenSteps.{Chosen}
use Rattle.hg_replay.specs.declared.replaying.output.Output.{Output}
use Rattle.hg_replay.specs.Listings.{looks_at}
use Rattle.hg_replay.specs.Rows.{is_row}
use Rattle.hg_replay.specs.Text.{answer_lines}
use Rattle.hg_replay.specs.Sinks.{Seen}
use Rattle.hg_replay.specs.Writes.{Emits}

-- a Look at each of these places is answered as in a run with its choices, which changes nothing,
-- and the lines of this many rows are given to be written
pub record Looked (k : Kept) (worker : ℕ) (actor : Actor) (places : List ℕ) (rows : ℕ)
    (old : Seen) (from : Output) (new : Seen) (to : Output) : Type 0 where
  pub answers : List Answer
  pub chosen : Chosen k (looks_at worker actor places) answers k
  pub counted : rows ≡ length (filter is_row answers)
  pub given : Emits old from new to (answer_lines k.state.policy (filter is_row answers))
