use Rattle.std.proofs.Common.{◌+◌, ◌*◌}
use Rattle.hg_audit.specs.Handed.{parts_in}
use Rattle.hg_audit.specs.Lowest.{AreOutOnce}
use Rattle.hg_audit.proofs.parts.Parts.first_on.Given as goal

abbrev pub invariant-loop-index : goal.invariant-loop-index
invariant-loop-index l =
    AreOutOnce (parts_in l.self) ((l.segment * 16 + l.page) * 512)
    ((l.segment * 16 + l.page) * 512 + l.index)
