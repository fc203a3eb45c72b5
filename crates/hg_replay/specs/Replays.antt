-- What a replay writes, and how it ends.
use Rattle.std.specs.Prelude.{◌≡◌, ℕ, List, [], ◌∷◌, ◌++◌, Option, Some, None, Result, Ok, Err}
use Rattle.hg_place.specs.declared.Handle.{Handle}
use Rattle.hg_machine.specs.Policy.{Policy}
use Rattle.hg_machine.specs.Lists.{Kept}
use Rattle.hg_machine.specs.declared.Answer.{Answer}
use Rattle.hg_machine.specs.declared.Answer.TheVariants as answer
use Rattle.hg_choice.specs.ChosenSteps.{Chosen}
use Rattle.hg_trace.specs.declared.line.Command.{Command}
use Rattle.hg_trace.specs.declared.line.Command.TheVariants as command
use Rattle.hg_trace.specs.declared.line.Line.{Line}
use Rattle.hg_replay.specs.declared.replaying.events.Meaning.{Meaning}
use Rattle.hg_replay.specs.declared.replaying.fault.ReplayFault.{ReplayFault}
use Rattle.hg_replay.specs.declared.replaying.fault.ReplayFault.TheVariants as fault
use Rattle.hg_core.specs.Opening.{opened}
use Rattle.hg_replay.specs.Events.{meaning_of, events_of, unknown_worker}
use Rattle.hg_replay.specs.Text.{reply_text}
use Rattle.hg_replay.specs.Sinks.{Seen}
use Rattle.hg_replay.specs.Writes.{Wrote, StopsSoon}

-- where a replay stands: what is kept, and what the allocation of each label so far was answered,
-- in the order of the labels; none where it wasn't served
pub record Progress : Type 0 where
  pub kept : Kept
  pub handles : List (Option Handle)

-- the handle in the answers to an allocation
abbrev pub handle_in : List Answer → Option Handle
handle_in (answer.Block handle ∷ []) = Some handle
handle_in _ = None

-- a line that gives a label binds it to what its allocation was answered
abbrev pub handles_after : List (Option Handle) → Command → List Answer → List (Option Handle)
handles_after handles (command.Alloc actor arena bytes (Some label)) answers =
    handles ++ handle_in answers ∷ []
handles_after handles _ answers = handles

-- what a line means here
abbrev pub meaning_at : Progress → Line → Meaning
meaning_at from line = meaning_of from.kept.state.policy from.handles line.command

-- the events of a line are answered as in a run with its choices, which leaves this, and this is
-- their text
pub record Answered (from : Progress) (line : Line) (end : Progress) (text : List ℕ) : Type 0 where
  pub answers : List Answer
  pub chosen :
      Chosen from.kept (events_of from.kept.state line.worker (meaning_at from line)) answers
      end.kept
  pub handles : end.handles ≡ handles_after from.handles line.command answers
  pub told : text ≡ reply_text from.kept.state.policy (meaning_at from line) answers

-- the lines are answered one after another, which leaves this, and this is the text of all
abbrev pub Replays : Progress → List Line → Progress → List ℕ → Type 0
Replays from [] end text = (end ≡ from) × (text ≡ [])
Replays from (line ∷ lines) end text =
    (mid : Progress) × (here : List ℕ) × (rest : List ℕ) × Answered from line mid here
    × Replays mid lines end rest × (text ≡ here ++ rest)

-- this is kept, and no label is given
abbrev pub starting : Kept → Progress
starting k = record { kept = k; handles = [] }

-- from what is kept the lines before one, and that one, are answered, and none after it, which
-- leaves this. Of their text only a front is written, and of that of the lines before it all but
-- what may wait: once a write has stopped no line more is answered
pub record StopsAt (k : Kept) (lines : List Line) (end : Progress) (old new : Seen) : Type 0 where
  pub before : List Line
  pub last : Line
  pub after : List Line
  pub split : lines ≡ before ++ last ∷ after
  pub mid : Progress
  pub text : List ℕ
  pub here : List ℕ
  pub replayed : Replays (starting k) before mid text
  pub answered : Answered mid last end here
  pub stopped : StopsSoon old new text here

-- the same, wherever that leads
abbrev pub StopsWithin : Kept → List Line → Seen → Seen → Type 0
StopsWithin k lines old new = (end : Progress) × StopsAt k lines end old new

-- how a replay under a policy ends, from what a core opens with. Where it gives up with Worker or
-- Memory nothing is written
abbrev pub EndsReplay
    : Policy → List Line → Seen → Seen → Result (Unit {0}) ReplayFault → Type 0
EndsReplay policy lines old new (Ok done) =
    (unknown_worker policy.workers lines ≡ None)
    × (end : Progress) × (text : List ℕ) × Replays (starting (opened policy)) lines end text
    × Wrote old new text
EndsReplay policy lines old new (Err (fault.Worker line)) =
    (unknown_worker policy.workers lines ≡ Some line) × (new ≡ old)
EndsReplay policy lines old new (Err fault.Write) =
    (unknown_worker policy.workers lines ≡ None) × StopsWithin (opened policy) lines old new
EndsReplay policy lines old new (Err fault.Memory) =
    (unknown_worker policy.workers lines ≡ None) × (new ≡ old)
