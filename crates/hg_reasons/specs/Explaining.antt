-- The lines of a trace, each with its answer and the reason for that.
use Rattle.std.specs.Prelude.{◌≡◌, ⊤, ℕ, ◌-◌, List, [], ◌∷◌, ◌++◌}
use Rattle.std.specs.Prelude.{Option, Some, None, Result, Ok, Err}
use Rattle.std.specs.Prelude.{Bool, nat_lt, option_map, slice_get, unwrap_or}
use Rattle.std.specs.List.{slice_split}
use Rattle.hg_machine.specs.Policy.{Policy}
use Rattle.hg_machine.specs.State.{State}
use Rattle.hg_trace.specs.Lines.{ends_line}
use Rattle.hg_trace.specs.declared.line.Line.{Line}
use Rattle.hg_core.specs.Opening.{opened}
use Rattle.hg_replay.specs.declared.replaying.fault.ReplayFault.{ReplayFault}
use Rattle.hg_replay.specs.declared.replaying.fault.ReplayFault.TheVariants as fault
use Rattle.hg_replay.specs.declared.replaying.told.Told.{Told}
use Rattle.hg_replay.specs.Events.{unknown_worker}
use Rattle.hg_replay.specs.Replays.{Progress, Answered, starting}
use Rattle.hg_replay.specs.Tellings.{IsTold}
use Rattle.hg_replay.specs.Statuses.{Means}
use Rattle.hg_reasons.specs.Counts.{counts_text}
use Rattle.hg_reasons.specs.Forms.{line_told}
use Rattle.hg_reasons.specs.Past.{Past, no_past, past_after}
use Rattle.hg_reasons.specs.Reasons.{reason_of}
use Rattle.hg_reasons.specs.Wording.{left_after, said_by, words_text}
use Rattle.hg_reasons.specs.declared.reason.Reason.{Reason}
use Rattle.hg_reasons.specs.declared.form.Form.{Form}

-- the lines of a trace's bytes, without their ends, and the one with this number, from 1
abbrev pub texts_of : List ℕ → List (List ℕ)
texts_of bytes = slice_split ends_line bytes

abbrev pub text_of : List (List ℕ) → ℕ → List ℕ
text_of texts number = unwrap_or (slice_get texts (number - 1)) []

-- what was told of the lines so far, in which form, how many reasons of a name that the policy lacks may
-- still have one that is like it, and what the lines have done
pub record Story : Type 0 where
  pub form : Form
  pub left : ℕ
  pub past : Past
  pub text : List ℕ

abbrev pub beginning : Form → Policy → Story
beginning form policy = record { form = form; left = 64; past = no_past policy; text = [] }

-- the reason for what a line came to, in words, if it has one, with a name that is like one that the
-- policy lacks where that is told
abbrev pub words_of : Policy → Line → Bool → Option Reason → Option (List ℕ)
words_of policy line tells why =
    option_map (words_text (said_by policy line.worker line.command) tells) why

-- what is told with a line of this text, which leaves this state and printed this reply
abbrev pub story_after : Story → State → Line → Told → List ℕ → List ℕ → Story
story_after from s line told text reply =
    let why = reason_of s from.past line.worker line.command told in
    record {
      form = from.form;
      left = left_after from.left why;
      past = past_after from.past line.number line.command told;
      text =
          from.text
          ++ line_told from.form line.number text told reply
          (words_of s.policy line (nat_lt 0 from.left) why);
    }

-- a line is answered as in a replay, which leaves this, and told with its answer and the reason
pub record Explained (text : List ℕ) (from : Progress) (story : Story) (line : Line)
    (mid : Progress) (next : Story) : Type 0 where
  pub told : Told
  pub reply : List ℕ
  pub answered : Answered from line mid reply
  pub comes_to : IsTold from line told mid.kept
  pub is : next ≡ story_after story mid.kept.state line told text reply

-- the lines are answered one after another, as in a replay, which leaves this, and told so
abbrev pub Explains
    : List (List ℕ) → Progress → Story → List Line → Progress → Story → Type 0
Explains texts from story [] end last = (end ≡ from) × (last ≡ story)
Explains texts from story (line ∷ lines) end last =
    (mid : Progress) × (next : Story)
    × Explained (text_of texts line.number) from story line mid next
    × Explains texts mid next lines end last

-- the same, from what a core opens with under the policy
abbrev pub ExplainsAll : Form → List ℕ → Policy → List Line → Story → Type 0
ExplainsAll form trace_bytes policy lines last =
    (end : Progress)
    × Explains (texts_of trace_bytes) (starting (opened policy)) (beginning form policy) lines
    end last

-- a text is what was told of the lines, and how many came to what behind it
abbrev pub told_text : Policy → Story → List ℕ
told_text policy last = last.text ++ counts_text last.form policy last.past.lines

abbrev pub IsToldOf : Form → List ℕ → Policy → List Line → List ℕ → Type 0
IsToldOf form trace_bytes policy lines text =
    (last : Story) × ExplainsAll form trace_bytes policy lines last
    × (text ≡ told_text policy last)

-- the same, where no line's worker is unknown; or the first such line, or want of memory
abbrev pub ExplainedAs
    : Form → List ℕ → Policy → List Line → Result Story ReplayFault → Type 0
ExplainedAs form trace_bytes policy lines (Ok story) =
    (unknown_worker policy.workers lines ≡ None)
    × IsToldOf form trace_bytes policy lines story.text
ExplainedAs form trace_bytes policy lines (Err (fault.Worker line)) =
    unknown_worker policy.workers lines ≡ Some line
ExplainedAs form trace_bytes policy lines (Err fault.Memory) = ⊤
ExplainedAs form trace_bytes policy lines (Err fault.Write) = ⊥

-- the bytes mean a policy and a trace for it, and this is told of its lines
abbrev pub IsExplained : Form → List ℕ → List ℕ → List ℕ → Type 0
IsExplained form policy_bytes trace_bytes text =
    (policy : Policy) × (lines : List Line) × Means policy_bytes trace_bytes policy lines
    × IsToldOf form trace_bytes policy lines text
