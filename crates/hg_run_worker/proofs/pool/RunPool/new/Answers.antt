use Rattle.std.proofs.Common.{◌≡◌, ◌+◌, ◌-◌, ℕ, length, slice_get, Some, subst, sym, ◌∙◌, arith}
use Rattle.std.specs.Arc.{arc_value}
use Rattle.hg_run_table.specs.declared.table.RunSeat.{RunSeat}
use Rattle.hg_run_table.specs.NewSeats.{IsNewSegment}
use Rattle.hg_run_worker.specs.NewPools.{HasFrom}
use Rattle.hg_run_worker.proofs.NewPools.{cut_last, has_none, has_put, is_pool, not_there, one_more}
use Rattle.hg_run_worker.proofs.pool.RunPool.new.Goals as goal
use Rattle.hg_run_worker.proofs.pool.RunPool.new.Goals.{In-Some}

pub loop-seat-init : goal.loop-seat-init
loop-seat-init c = record {
  counted = c.segments-number.ensures.segments ∙ sym c.requires.all;
  each = c.requires.each;
  has = has_none c.in_ok-pool.pool c.segments-number.ensures.segments c.in_ok-pool.ensures.orphans
      c.in_ok-pool.ensures.fresh;
}

-- one seat fewer is left
left : (c : In-Some) → c.loop-seat.number ≡ length c.pop.new.self.items + 1
left c = c.loop-seat.invariant.counted ∙ sym (one_more _ _ c.in-Some.seat c.in-Some.ensures.items)

-- the segments behind that of the seat are there
there : (c : In-Some)
    → HasFrom (arc_value c.args.table.now).table.shared.table_id c.args.policy.now
    (c.loop-seat.number - 1 + 1) c.loop-seat.pool
there c =
    subst
    (λ n.
    HasFrom (arc_value c.args.table.now).table.shared.table_id c.args.policy.now n c.loop-seat.pool)
    (let more = left c in omega arith) c.loop-seat.invariant.has

-- the seats that are left, and the one that was behind them
cut : (c : In-Some)
    → ((k : ℕ) (seat : RunSeat) → slice_get c.pop.new.self.items k ≡ Some seat
    → IsNewSegment (arc_value c.args.table.now).table.shared.table_id k seat)
    × IsNewSegment (arc_value c.args.table.now).table.shared.table_id
    (length c.pop.new.self.items) c.in-Some.seat
cut c =
    cut_last (IsNewSegment (arc_value c.args.table.now).table.shared.table_id) _ _ c.in-Some.seat
    c.in-Some.ensures.items c.loop-seat.invariant.each

pub overflow_sub-number : goal.overflow_sub-number
overflow_sub-number c = let more = left c in omega arith

pub fresh_segment-requires-clause-there : goal.fresh_segment-requires-clause-there
fresh_segment-requires-clause-there c =
    let more = left (goal.at.fresh_segment-requires-clause-there c).In-Some in
    let within = c.loop-seat.invariant.has.within in omega arith

pub fresh_segment-requires-clause-new : goal.fresh_segment-requires-clause-new
fresh_segment-requires-clause-new c =
    let at = (goal.at.fresh_segment-requires-clause-new c).In-Some in
    subst (λ n. IsNewSegment (arc_value c.args.table.now).table.shared.table_id n c.in-Some.seat)
    (let more = left at in omega arith) (cut at).1

pub put_fresh-requires : goal.put_fresh-requires
put_fresh-requires c =
    not_there (c.loop-seat.number - 1) c.loop-seat.pool c.in_ok-fresh_segment.field-0
    (there (goal.at.put_fresh-requires c).In-Some) c.in_ok-fresh_segment.ensures.number

pub loop-seat-smaller : goal.loop-seat-smaller
loop-seat-smaller c =
    let more = one_more _ _ c.in-Some.seat c.in-Some.ensures.items in omega arith

pub loop-seat-preserved : goal.loop-seat-preserved
loop-seat-preserved c =
    let at = (goal.at.loop-seat-preserved c).In-Some in
    record {
      counted = (let more = left at in omega arith);
      each = (cut at).0;
      has = has_put (c.loop-seat.number - 1) c.loop-seat.pool c.put_fresh.new.self
          c.in_ok-fresh_segment.field-0 (there at) c.in_ok-fresh_segment.ensures.number
          c.in_ok-fresh_segment.ensures.unused c.put_fresh.ensures.fresh
          c.put_fresh.ensures.orphans c.put_fresh.ensures.right;
    }

pub returns-clause-ready : goal.returns-clause-ready
returns-clause-ready c =
    is_pool _ c.requires.part
    (subst
    (λ n.
    HasFrom (arc_value c.args.table.now).table.shared.table_id c.args.policy.now n c.loop-seat.pool)
    (let none = c.in_default.ensures.cases.0 in c.loop-seat.invariant.counted ∙ omega (arith, none))
    c.loop-seat.invariant.has)

pub returns-clause-orphans : goal.returns-clause-orphans
returns-clause-orphans c = c.loop-seat.invariant.has.orphans
