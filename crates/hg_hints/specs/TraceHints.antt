-- What is told behind the line of a trace's fault.
use Rattle.std.specs.Prelude.{◌≡◌, ◌-◌, ◌++◌, ℕ, List, [], Option, Some, None, Result, Ok, Err, codes}
use Rattle.std.specs.Prelude.{decimal, is_some, if◌then◌else◌}
use Rattle.hg_machine.specs.Policy.{Policy}
use Rattle.hg_policy_text.specs.Document.{document_of}
use Rattle.hg_policy_text.specs.Faults.{Read}
use Rattle.hg_trace.specs.FaultyWord.{Tells, line_of}
use Rattle.hg_trace.specs.Trace.{trace_of}
use Rattle.hg_trace.specs.Workers.{first_from}
use Rattle.hg_trace.specs.declared.fault.LineFault.{LineFault}
use Rattle.hg_trace.specs.declared.fault.TraceFault.{TraceFault}
use Rattle.hg_trace.specs.declared.fault.TraceFault.TheVariants as trace_fault
use Rattle.hg_trace.specs.declared.faulty.FaultyWord.{FaultyWord}
use Rattle.hg_trace.specs.declared.line.Line.{Line}
use Rattle.hg_hints.specs.TraceWords.{word_text}

-- the word at fault, if one is known
abbrev pub word_hint : Option FaultyWord → List ℕ
word_hint None = []
word_hint (Some word) = word_text word

-- of a line with this fault
abbrev pub IsWordHint : List ℕ → ℕ → LineFault → List ℕ → Type 0
IsWordHint bytes number fault hint =
    (word : Option FaultyWord) × Tells fault (line_of bytes number) word × (hint ≡ word_hint word)

-- which workers a policy has
unfoldable pub workers_text : ℕ → List ℕ
workers_text workers =
    codes "  the policy has workers up to w" ++ decimal (workers - 1) ++ codes "\n"

-- of lines, where the worker of one is unknown to the policy
abbrev pub worker_hint : Read Policy → List Line → List ℕ
worker_hint (Err fault) lines = []
worker_hint (Ok policy) lines =
    if is_some (first_from policy.workers lines) then workers_text policy.workers else []

abbrev pub IsTraceHintOf
    : List ℕ → List ℕ → Result (List Line) TraceFault → List ℕ → Type 0
IsTraceHintOf policy bytes (Ok lines) hint = hint ≡ worker_hint (document_of policy) lines
IsTraceHintOf policy bytes (Err (trace_fault.Line number fault)) hint =
    IsWordHint bytes number fault hint
IsTraceHintOf policy bytes (Err trace_fault.Memory) hint = hint ≡ []

-- of the bytes of a trace, under the policy of others
abbrev pub IsTraceHint : List ℕ → List ℕ → List ℕ → Type 0
IsTraceHint policy bytes hint = IsTraceHintOf policy bytes (trace_of bytes) hint
