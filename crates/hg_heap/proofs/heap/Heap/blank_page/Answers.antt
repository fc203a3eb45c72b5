use Rattle.std.proofs.Common.{sym, ℕ, arith}
use Rattle.hg_heap.specs.Held.{is_some_place}
use Rattle.hg_heap.specs.Choice.{blank_on}
use Rattle.hg_heap.proofs.Searches.{none_so_far, first_in_all, none_in_all}
use Rattle.hg_heap.proofs.heap.Heap.blank_page.Goals as goal

pub returns-in-Some-clause-first : goal.returns-in-Some-clause-first
returns-in-Some-clause-first g c =
    let w = g.S.SlotWords in
    sym (first_in_all
    (λ (page : ℕ). is_some_place (blank_on w.number w.records c.args.self.now.segments
    c.args.arena c.args.class page)) c.loop-segment.segment c.in-Some.page c.loop-segment.invariant
    (sym c.in-Some.ensures.first) c.loop-segment-test.true)

pub loop-segment-preserved : goal.loop-segment-preserved
loop-segment-preserved g c =
    let w = g.S.SlotWords in
    none_so_far (λ (page : ℕ). is_some_place (blank_on w.number w.records
    c.args.self.now.segments c.args.arena c.args.class page)) c.loop-segment.segment
    c.loop-segment.invariant (sym c.in_default.ensures.first)

pub returns-clause-first : goal.returns-clause-first
returns-clause-first g c =
    let w = g.S.SlotWords in
    sym (none_in_all
    (λ (page : ℕ). is_some_place (blank_on w.number w.records c.args.self.now.segments
    c.args.arena c.args.class page)) c.loop-segment.segment c.loop-segment.invariant
    (omega (arith, c.loop-segment-test.false, c.loop-segment.auto.segment-end)))
