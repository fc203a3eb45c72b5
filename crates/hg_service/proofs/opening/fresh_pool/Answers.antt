use Rattle.std.proofs.Common.{suc, length, subst, sym, ◌∙◌, Some, arith}
use Rattle.std.proofs.lemmas.List.Elements.{All-pop}
use Rattle.std.specs.Box.{boxed_slice_items}
use Rattle.hg_table.specs.Seats.{AreHome, KnowsNothing, part_in}
use Rattle.hg_worker.specs.Seats.{number_in}
use Rattle.hg_service.specs.New.{AreFresh}
use Rattle.hg_service.proofs.Opened.{in_front, last_number, next_put, one_more}
use Rattle.hg_service.proofs.opening.fresh_pool.Goals as goal

pub fresh_segment-requires-clause-home : goal.fresh_segment-requires-clause-home
fresh_segment-requires-clause-home g c =
    (All-pop (λ seat. AreHome (boxed_slice_items seat.inner.records)
    × KnowsNothing (part_in seat.inner.seat)) _ _ (Some c.in-Some.seat) c.in-Some.ensures.items
    c.loop-seat.invariant.home).1.0

pub fresh_segment-requires-clause-nothing : goal.fresh_segment-requires-clause-nothing
fresh_segment-requires-clause-nothing g c =
    (All-pop (λ seat. AreHome (boxed_slice_items seat.inner.records)
    × KnowsNothing (part_in seat.inner.seat)) _ _ (Some c.in-Some.seat) c.in-Some.ensures.items
    c.loop-seat.invariant.home).1.1

pub loop-seat-preserved : goal.loop-seat-preserved
loop-seat-preserved g c =
    let more = one_more _ _ c.in-Some.seat c.in-Some.ensures.items in
    let fresh = c.loop-seat.invariant.fresh in
    record {
      numbers = in_front (λ seat. number_in seat.inner) _ _ _ c.pop.ensures.items c.loop-seat.invariant.numbers;
      home = (All-pop (λ seat. AreHome (boxed_slice_items seat.inner.records)
          × KnowsNothing (part_in seat.inner.seat)) _ _ c.pop.result c.pop.ensures.items
          c.loop-seat.invariant.home).0;
      fresh = (
        suc fresh.0,
        omega (arith, fresh.1, more),
        next_put c.args.policy.now (length c.pop.new.self.items) fresh.0 c.loop-seat.kept.pool
            c.put_fresh.new.self.pool c.in_ok-fresh_segment.field-0
            (subst (λ n. AreFresh c.args.policy.now n fresh.0 c.loop-seat.kept.pool) (sym more) fresh.2)
            (c.in_ok-fresh_segment.ensures.number
            ∙ last_number (λ seat. number_in seat.inner) _ _ c.in-Some.seat c.in-Some.ensures.items
            c.loop-seat.invariant.numbers)
            c.in_ok-fresh_segment.ensures.unused c.put_fresh.ensures.fresh
            c.put_fresh.ensures.orphans c.put_fresh.ensures.right,
      );
    }
