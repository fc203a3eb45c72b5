use Rattle.std.proofs.Common.{◌+◌}
use Rattle.hg_segment.specs.Charges.{charge_of}
use Rattle.hg_heap.proofs.Adding.{AreChanged}
use Rattle.hg_heap.proofs.adopting.add_charges.Given as goal

abbrev pub invariant-loop-tenant : goal.invariant-loop-tenant
invariant-loop-tenant g l =
    AreChanged (λ tenant was. was + charge_of (g.S.SlotWords.records l.segment.slots)
    l.segment.classes tenant) l.tenant l.fn.charges l.charges
