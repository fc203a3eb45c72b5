use Rattle.std.proofs.Common.{◌≡◌, ◌≤◌, take}
use Rattle.hg_program.specs.Ends.{StandOf}
use Rattle.hg_program.proofs.Tested.{texts}
use Rattle.hg_program.proofs.files.test_each.Given as goal

-- the traces of the names so far stand so
abbrev pub invariant-loop-name : goal.invariant-loop-name
invariant-loop-name g l = record {
  stands :
      StandOf (g.H.Host.holds l.cx.host.now) l.policy (texts (take l.name-index l.names)) l.tests
      (l.err ≡ l.fn.err);
  traces : l.tests.summary.traces ≤ l.name-index;
  differ : l.tests.summary.differ ≤ l.name-index;
}
