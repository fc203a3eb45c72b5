use Rattle.std.proofs.Common.{Bool, Some, ◌≡◌, ◌+◌, ◌*◌, ◌/◌, ◌%◌, Option}
use Rattle.std.proofs.Common.{sym, ap, ◌∙◌, arith}
use Rattle.hg_segment.specs.Kept.{Kept}
use Rattle.hg_heap.specs.Idle.{is_idle, is_idle_by}
use Rattle.hg_heap.specs.Settled.{IsSettled}
use Rattle.hg_heap.proofs.Founds.{Found, found_of, found_is, Contains-get}
use Rattle.hg_heap.proofs.Idles.{idle_here, busy_here}
use Rattle.hg_heap.proofs.PageRetired.{PageRetired, right_retired, retired_on}
use Rattle.hg_heap.proofs.heap.Heap.retire.Goals as goal
use Rattle.hg_heap.proofs.heap.Heap.retire.Goals.{After-retire-is_retired, Else-not-is_retired}
use Rattle.hg_heap.proofs.heap.Heap.retire.Given.{Over}

-- the segment of the page, as it was found
here : (g : Over) (c : After-retire-is_retired g) → Found g.S.SlotWords.number
    c.self.inside.segments.items (c.args.page / 16) c.in-Some.found c.index_mut-segment.result.now
here g c = found_of g.S.SlotWords.number c.self.inside.segments.items _ c.in-Some.found
    c.index_mut-segment.result.now
    (rw (← c.self.view_is) at c.in-Some.ensures.some) c.index_mut-segment.ensures.value

-- whether the page was idle, by its segment
idle_is : (g : Over) (c : After-retire-is_retired g) (b : Bool)
    → is_idle_by g.S.SlotWords.number g.S.SlotWords.records (Some c.index_mut-segment.result.now)
    (c.args.page % 16) ≡ b
    → b ≡ is_idle g.S.SlotWords.number g.S.SlotWords.records c.args.self.now.segments c.args.page
idle_is g c b e = rw (← c.self.view_is) (sym
    (ap (λ (o : Option (Kept g.row.S.Denot)). is_idle_by g.S.SlotWords.number
    g.S.SlotWords.records o (c.args.page % 16))
    (found_is g.S.SlotWords.number _ _ _ _ (here g c)) ∙ e))

-- it lost its class
abbrev retired : (g : Over) (c : Else-not-is_retired g) → PageRetired g.S.SlotWords.number
    c.self.inside.segments.items c.in-Some.found (c.args.page % 16)
    c.index_mut-segment.result.now c.retire-is_retired.new.self
retired g c =
    let found = found_of g.S.SlotWords.number c.self.inside.segments.items _ c.in-Some.found
    c.index_mut-segment.result.now
    (rw (← c.self.view_is) at c.in-Some.ensures.some) c.index_mut-segment.ensures.value in
    let was = c.self.invariant.settled _ (Contains-get _ c.in-Some.found _ found.at) in
    record {
      segment = c.args.page / 16;
      here = found;
      low = omega arith;
      pages = was.pages;
      paged = was.classes;
      changed = (c.retire-is_retired.ensures.retired c.if-not-is_retired.false).changed;
    }

pub invariant_of-self-2 : goal.invariant_of-self-2
invariant_of-self-2 g c =
    let w = g.S.SlotWords in
    let s = c.settled.ensures in
    let settled : IsSettled w.records c.retire-is_retired.new.self = record {
      lists = s.lists;
      sizes = s.sizes;
      runs = s.runs;
      bounded = s.bounded;
      opened = s.open;
      listed = s.listed;
      blocks = s.blocks;
      pages = s.all.0;
      classes = s.all.1;
      words = s.all.2;
    } in
    let whole : (c.args.page / 16) * 16 + c.args.page % 16 ≡ c.args.page = omega arith in
    rw (c.remove.ensures.removed, ← whole)
    (right_retired w.number _ _ _ _ _
    (retired g (goal.at.invariant_of-self-2 g c).Else-not-is_retired) c.self.inside.queues
    c.self.invariant.queued w.records _ _ _
    (c.retire-is_retired.ensures.retired c.if-not-is_retired.false).idle settled c.self.invariant)

pub returns-clause-retired : goal.returns-clause-retired
returns-clause-retired g c =
    let whole : (c.args.page / 16) * 16 + c.args.page % 16 ≡ c.args.page = omega arith in
    λ yes. rw (← c.self.view_is, c.remove.ensures.removed, ← whole)
    (retired_on g.S.SlotWords.number _ _ _ _ _
    (retired g (goal.at.returns-clause-retired g c).Else-not-is_retired) c.self.inside.queues)

pub returns-then-not-is_retired-clause-idle : goal.returns-then-not-is_retired-clause-idle
returns-then-not-is_retired-clause-idle g c = idle_is g
    (goal.at.returns-then-not-is_retired-clause-idle g c).After-retire-is_retired _
    (busy_here g.S.SlotWords.number g.S.SlotWords.records c.index_mut-segment.result.now
    (c.args.page % 16) (c.retire-is_retired.ensures.stayed c.if-not-is_retired.true).busy)

pub returns-clause-idle : goal.returns-clause-idle
returns-clause-idle g c =
    let r = c.retire-is_retired.ensures.retired c.if-not-is_retired.false in
    idle_is g (goal.at.returns-clause-idle g c).After-retire-is_retired _
    (idle_here g.S.SlotWords.number g.S.SlotWords.records c.index_mut-segment.result.now
    (c.args.page % 16) r.classed r.idle)
