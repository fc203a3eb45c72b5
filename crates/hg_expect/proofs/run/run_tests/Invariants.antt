use Rattle.std.proofs.Common.{◌≡◌, ◌≤◌, All, take}
use Rattle.hg_expect.specs.Tests.{IsUnwarned, Stands}
use Rattle.hg_expect.proofs.run.run_tests.Given as goal

-- so the traces so far stand
abbrev pub invariant-loop-source : goal.invariant-loop-source
invariant-loop-source g l = record {
  stands : Stands l.policy (take l.source-index l.sources) l.tests;
  quiet : All (IsUnwarned l.policy) l.sources → l.err ≡ l.fn.err;
  traces : l.tests.summary.traces ≤ l.source-index;
  differ : l.tests.summary.differ ≤ l.source-index;
}
