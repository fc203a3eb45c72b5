-- Laws of the statuses.
use Rattle.std.specs.Prelude.{◌≡◌, ◌≢◌, ◌↔◌, ◌<◌, ◌⊎◌, ℕ, List, Some, Ok, length}
use Rattle.hg_machine.specs.Policy.{Policy}
use Rattle.hg_policy_text.specs.Document.{document_of}
use Rattle.hg_trace.specs.declared.line.Line.{Line}
use Rattle.hg_trace.specs.Trace.{trace_of}
use Rattle.hg_replay.specs.declared.run.input.TheConstants.{LIMIT}
use Rattle.hg_replay.specs.declared.run.status.Status.{Status}
use Rattle.hg_replay.specs.declared.run.status.Status.TheVariants as status
use Rattle.hg_core.specs.Opening.{opened}
use Rattle.hg_replay.specs.Checks.{EndsCheck}
use Rattle.hg_replay.specs.Numbers.{number_of}
use Rattle.hg_replay.specs.Replays.{Progress}
use Rattle.hg_replay.specs.ReplayLaws.{StopsInRun}
use Rattle.hg_replay.specs.Sinks.{Seen}
use Rattle.hg_replay.specs.Writes.{Wrote}
use Rattle.hg_replay.specs.WrittenValues.{unwritten_lines, PrintSameButWords}
use Rattle.hg_replay.specs.Statuses.{Means, NoPolicy, NoTrace, EndsAs, EndsJoined}

-- the status that bytes earn a run, whatever memory and files do: they mean a policy and a trace for
-- it, or no policy, or a policy and no trace for it
abbrev pub IsDue : Status → List ℕ → List ℕ → Type 0
IsDue status.Done policy_bytes trace_bytes =
    (policy : Policy) × (lines : List Line) × Means policy_bytes trace_bytes policy lines
IsDue status.BadPolicy policy_bytes trace_bytes = NoPolicy policy_bytes
IsDue status.BadTrace policy_bytes trace_bytes =
    (policy : Policy) × (document_of policy_bytes ≡ Ok policy) × NoTrace policy trace_bytes
IsDue status.Failed policy_bytes trace_bytes = ⊥
IsDue status.BadLine policy_bytes trace_bytes = ⊥
IsDue status.Differs policy_bytes trace_bytes = ⊥

-- for all bytes one status is due, and no other
abbrev pub OneStatusIsDue : Type 0
OneStatusIsDue =
    (policy_bytes trace_bytes : List ℕ)
    → (due : Status) × IsDue due policy_bytes trace_bytes
    × ((other : Status) → IsDue other policy_bytes trace_bytes → other ≡ due)

-- a run that doesn't fail ends with the status that is due
abbrev pub RunsEndAsDue : Type 0
RunsEndAsDue =
    (ended : Status) (policy_bytes trace_bytes : List ℕ) (old new : Seen)
    → EndsAs ended policy_bytes trace_bytes old new
    → (ended ≡ status.Failed) ⊎ IsDue ended policy_bytes trace_bytes

-- a check that doesn't fail ends with BadPolicy where a run would, and else with Done
abbrev pub ChecksEndAsDue : Type 0
ChecksEndAsDue =
    (ended : Status) (policy_bytes trace_bytes : List ℕ) (old new : Seen)
    → EndsCheck ended policy_bytes old new → ended ≢ status.Failed
    → ((ended ≡ status.Done) ⊎ (ended ≡ status.BadPolicy))
    × (ended ≡ status.BadPolicy ↔ IsDue status.BadPolicy policy_bytes trace_bytes)

-- runs that go well under one policy, on the bytes of two traces that differ in written values
-- alone, write line for line the same but for words that are read
abbrev pub RunsShowValuesInWords : Type 0
RunsShowValuesInWords =
    (policy_bytes trace_bytes other_bytes : List ℕ) (lines others : List Line)
    (old new before after : Seen)
    → trace_of trace_bytes ≡ Ok lines → trace_of other_bytes ≡ Ok others
    → unwritten_lines others ≡ unwritten_lines lines
    → EndsAs status.Done policy_bytes trace_bytes old new
    → EndsAs status.Done policy_bytes other_bytes before after
    → (text : List ℕ) × (instead : List ℕ) × PrintSameButWords lines text instead
    × Wrote old new text × Wrote before after instead

-- a run that fails and one on the same bytes that goes well: the one wrote nothing, or it stopped in
-- the run of the other
abbrev pub FailedRunsBeginWell : Type 0
FailedRunsBeginWell =
    (policy_bytes trace_bytes : List ℕ) (old new before after : Seen)
    → EndsAs status.Failed policy_bytes trace_bytes old new
    → EndsAs status.Done policy_bytes trace_bytes before after
    → (new ≡ old)
    ⊎ ((policy : Policy) × (lines : List Line) × Means policy_bytes trace_bytes policy lines
    × (end : Progress) × (last : Progress) × (all : List ℕ)
    × StopsInRun (opened policy) lines end last old new all × Wrote before after all)

-- an input longer than the limit is not read
abbrev pub LongInputsFail : Type 0
LongInputsFail =
    (ended : Status) (bytes : List ℕ) (old new : Seen) → LIMIT < length bytes
    → EndsJoined ended (Some bytes) old new → (ended ≡ status.Failed) × (new ≡ old)

-- two statuses have two numbers
abbrev pub NumbersDiffer : Type 0
NumbersDiffer = (one other : Status) → number_of one ≡ number_of other → one ≡ other
