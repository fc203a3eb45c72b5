use Rattle.std.proofs.Common.{◌≡◌, false, length, arith}
use Rattle.hg_heap.specs.Held.{is_held}
use Rattle.hg_heap.specs.Settled.{IsSettled}
use Rattle.hg_heap.proofs.Adopted.{nowhere_yet, room_for, right_adopted}
use Rattle.hg_heap.proofs.OneMore.{fewer}
use Rattle.hg_heap.proofs.heap.Heap.adopt.Goals as goal
use Rattle.hg_heap.proofs.heap.Heap.adopt.Goals.{After-settled, After-self}
use Rattle.hg_heap.proofs.heap.Heap.adopt.Given.{Over}

-- the segment isn't held
away : (g : Over) (c : After-self g) → is_held g.S.SlotWords.number c.self.inside.segments.items
    (g.S.SlotWords.number c.args.segment.slots) ≡ false
away g c = rw (← c.self.view_is) at c.requires.new

-- and keeps what each segment does
settled : (g : Over) (c : After-settled g) → IsSettled g.S.SlotWords.records c.args.segment
settled g c = let s = c.settled.ensures in
    record {
      lists = s.lists;
      sizes = s.sizes;
      runs = s.runs;
      bounded = s.bounded;
      opened = s.open;
      listed = s.listed;
      blocks = s.blocks;
      pages = s.all.0;
      classes = s.all.1;
      words = s.all.2;
    }

pub enter_pages-requires-clause-nowhere : goal.enter_pages-requires-clause-nowhere
enter_pages-requires-clause-nowhere g c =
    nowhere_yet g.S.SlotWords.number g.S.SlotWords.records _ c.args.segment
    (away g (goal.at.enter_pages-requires-clause-nowhere g c).After-self)
    c.self.inside.queues c.self.invariant.queued

pub add_charges-requires-clause-room : goal.add_charges-requires-clause-room
add_charges-requires-clause-room g c =
    let at = goal.at.add_charges-requires-clause-room g c in
    room_for g.S.SlotWords.number g.S.SlotWords.records _ c.args.segment (away g at.After-self)
    _ _ _ _ (g.met.S.SlotWords.numbered c.args.segment.slots) (settled g at.After-settled)
    c.self.invariant g.met.S.SlotWords.sized

pub push_reserved-requires : goal.push_reserved-requires
push_reserved-requires g c =
    let less = fewer g.S.SlotWords.number g.S.SlotWords.records _ c.args.segment
    (away g (goal.at.push_reserved-requires g c).After-self) c.self.inside.table.value
    (g.met.S.SlotWords.numbered c.args.segment.slots) c.self.invariant.tabled in
    omega (arith, less, c.self.invariant.room, c.len.ensures)

pub invariant_of-self : goal.invariant_of-self
invariant_of-self g c =
    let at = goal.at.invariant_of-self g c in
    let long : c.len.result ≡ length c.self.inside.segments.items = omega (arith, c.len.ensures) in
    rw (
      c.deref_mut.ensures.value,
      c.number.ensures,
      long,
      c.push_reserved.ensures.capacity,
      c.push_reserved.ensures.items,
    ) (right_adopted g.S.SlotWords.number g.S.SlotWords.records _ c.args.segment
    (away g at.After-self) _ _ _ _ (g.met.S.SlotWords.numbered c.args.segment.slots)
    (settled g at.After-settled) c.self.invariant c.enter_pages.new.queues
    c.add_charges.new.charges c.requires.arena c.enter_pages.ensures.queues
    c.enter_pages.ensures.entered c.add_charges.ensures.all c.add_charges.ensures.each)
