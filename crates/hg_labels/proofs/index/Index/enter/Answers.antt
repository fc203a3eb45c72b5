use Rattle.std.proofs.Common.{◌≡◌, ◌≢◌, ap, arith}
use Rattle.hg_labels.specs.Slots.{slot_of}
use Rattle.hg_labels.specs.declared.slot.Slot.{Slot}
use Rattle.hg_labels.proofs.Found.{Finds-through, spilled_through}
use Rattle.hg_labels.proofs.index.Index.enter.Goals as goal

pub returns-in_ok-insert-clause-others : goal.returns-in_ok-insert-clause-others
returns-in_ok-insert-clause-others c = λ at other place same found.
    let is : c.in_ok-slot.slot ≡ slot_of c.args.hash c.args.number = rw c.in_ok-slot.ensures.ok_part at c.new.ensures in
    let apart : c.in_ok-slot.slot.number ≢ 0 = λ e. absurd (omega (arith, ap (λ (slot : Slot). slot.number) is)) in
    Finds-through c.args.self.now (record { buckets = c.put.new.self.buckets; spilled = c.insert.new.self }) at other place
    (c.put.ensures.stays at)
    (c.put.ensures.stays_full at apart)
    (λ was. spilled_through c.put.new.self.spilled c.insert.new.self c.args.name c.args.number c.in_ok-insert.ensures.updates other place same
    (rw c.put.ensures.spilled was))
    found
