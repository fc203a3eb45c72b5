-- How a test of traces under the policy of some bytes ends: its status, and what it writes.
use Rattle.std.specs.Prelude.{⊤, ◌≡◌, ◌≢◌, ◌⊎◌, ℕ, ◌+◌, ◌==◌, List, [], ◌∷◌, ◌++◌, Ok, codes, decimal}
use Rattle.std.specs.Prelude.{Option, Some, None, if◌then◌else◌}
use Rattle.hg_machine.specs.Policy.{Policy}
use Rattle.hg_policy_text.specs.Document.{document_of}
use Rattle.hg_replay.specs.Sinks.{Seen}
use Rattle.hg_replay.specs.Statuses.{NoPolicy, NoTrace}
use Rattle.hg_replay.specs.Writes.{Wrote, StopsIn}
use Rattle.hg_replay.specs.declared.run.status.Status.{Status}
use Rattle.hg_replay.specs.declared.run.status.Status.TheVariants as status
use Rattle.hg_expect.specs.declared.source.Source.{Source}
use Rattle.hg_expect.specs.Findings.{Findings, trace_text, warnings}
use Rattle.hg_expect.specs.Judging.{Tested}

-- what is told of the traces so far, how many there are, and in how many some line differs
pub record Summary : Type 0 where
  pub text : List ℕ
  pub traces : ℕ
  pub differ : ℕ

abbrev pub no_traces : Summary
no_traces = record { text = []; traces = 0; differ = 0 }

abbrev pub summary_after : Summary → List ℕ → Findings → Summary
summary_after from name found = record {
  text = from.text ++ trace_text name found;
  traces = from.traces + 1;
  differ = from.differ + (if found.differ == 0 then 0 else 1);
}

-- the traces are tested one after another, each from a core of its own
abbrev pub TestsAll : List ℕ → Summary → List Source → Summary → Type 0
TestsAll policy_bytes from [] last = last ≡ from
TestsAll policy_bytes from (source ∷ sources) last =
    (found : Findings) × Tested policy_bytes source.bytes.items found
    × TestsAll policy_bytes (summary_after from source.name.now found) sources last

-- the text of a test: what is told of each trace, and how many there are and how many differ
unfoldable pub report : Summary → List ℕ
report summary =
    summary.text
    ++ codes "traces " ++ decimal summary.traces
    ++ codes " differ " ++ decimal summary.differ
    ++ codes "\n"

-- all traces are tested, and this is their summary
abbrev pub AllTested : List ℕ → List Source → Summary → Type 0
AllTested policy_bytes sources last = TestsAll policy_bytes no_traces sources last

-- the bytes of the policy and of a trace have a fault with this status, or memory was refused
abbrev pub IsFaulty : Status → List ℕ → List ℕ → Type 0
IsFaulty status.BadPolicy policy_bytes trace_bytes = NoPolicy policy_bytes
IsFaulty status.BadTrace policy_bytes trace_bytes =
    (policy : Policy) × (document_of policy_bytes ≡ Ok policy) × NoTrace policy trace_bytes
IsFaulty status.Failed policy_bytes trace_bytes = ⊤
IsFaulty _ policy_bytes trace_bytes = ⊥

-- the traces before one are tested, and that one has a fault with this status
pub record FailsAt (ended : Status) (policy_bytes : List ℕ) (sources : List Source)
    : Type 0 where
  pub before : List Source
  pub source : Source
  pub after : List Source
  pub split : sources ≡ before ++ source ∷ after
  pub so_far : Summary
  pub tested : AllTested policy_bytes before so_far
  pub faulty : IsFaulty ended policy_bytes source.bytes.items

-- there is a fault with this status, or memory was refused
abbrev pub Fails : Status → List ℕ → List Source → Type 0
Fails status.BadPolicy policy_bytes sources = FailsAt status.BadPolicy policy_bytes sources
Fails status.BadTrace policy_bytes sources = FailsAt status.BadTrace policy_bytes sources
Fails status.Failed policy_bytes sources = ⊤
Fails _ policy_bytes sources = ⊥

-- traces that are tested one after another: their summary, up to the first that has a fault, and the
-- status of that
pub record Progress : Type 0 where
  pub summary : Summary
  pub fault : Option Status

abbrev pub no_tests : Progress
no_tests = record { summary = no_traces; fault = None }

-- so the traces stand under a policy: all are tested, and this is their summary, or there is a fault
abbrev pub StandsBy : Option Status → List ℕ → List Source → Summary → Type 0
StandsBy None policy_bytes sources summary = AllTested policy_bytes sources summary
StandsBy (Some ended) policy_bytes sources summary = Fails ended policy_bytes sources

abbrev pub Stands : List ℕ → List Source → Progress → Type 0
Stands policy_bytes sources tests = StandsBy tests.fault policy_bytes sources tests.summary

-- nothing is warned of in a trace, whatever a test finds of it
abbrev pub IsUnwarned : List ℕ → Source → Type 0
IsUnwarned policy_bytes source =
    (found : Findings) → Tested policy_bytes source.bytes.items found
    → warnings source.name.now found ≡ []

-- by the status: Done where all traces are tested and no line differs, Differs where some does, with
-- the text of the test written; BadPolicy and BadTrace where there is no policy, or the first trace
-- that isn't one is none, with nothing written; Failed for want of memory and for a write that
-- stopped in that text
abbrev pub EndsTests : Status → List ℕ → List Source → Seen → Seen → Type 0
EndsTests status.Done policy_bytes sources old new =
    (last : Summary) × AllTested policy_bytes sources last × (last.differ ≡ 0)
    × Wrote old new (report last)
EndsTests status.Differs policy_bytes sources old new =
    (last : Summary) × AllTested policy_bytes sources last × (last.differ ≢ 0)
    × Wrote old new (report last)
EndsTests status.BadPolicy policy_bytes sources old new =
    FailsAt status.BadPolicy policy_bytes sources × (new ≡ old)
EndsTests status.BadTrace policy_bytes sources old new =
    FailsAt status.BadTrace policy_bytes sources × (new ≡ old)
EndsTests status.Failed policy_bytes sources old new =
    (new ≡ old)
    ⊎ ((last : Summary) × AllTested policy_bytes sources last × StopsIn old new (report last))
EndsTests status.BadLine policy_bytes sources old new = ⊥
