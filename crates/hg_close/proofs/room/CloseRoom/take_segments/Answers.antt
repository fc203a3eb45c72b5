use Rattle.std.proofs.Common.{length, ap, refl, sym, arith}
use Rattle.hg_segment.specs.Kept.{Kept}
use Rattle.hg_worker.specs.Seats.{number_in, records_in, seat_shows, seat_steps}
use Rattle.hg_close.proofs.Filled.{filled, still_rest}
use Rattle.hg_close.proofs.Founds.{mapped_none}
use Rattle.hg_close.proofs.Underway.{all_over, all_there, begun, first_waits, one_fewer, one_over}
use Rattle.hg_close.proofs.room.CloseRoom.take_segments.Goals as goal

pub loop-number-init : goal.loop-number-init
loop-number-init g c =
    let same = ap (λ policy. length policy.segments) c.requires.policy in
    record {
      under = begun number_in records_in seat_shows seat_steps g.N.ServiceName.policy
          c.args.pool.now.pool c.args.self.now.words.items c.args.self.now.parts.pool
          c.args.pool.now.each (λ n lt. c.requires.room.words n (omega (arith, lt, same)))
          c.requires.room.orphans c.requires.room.fresh;
      rest = refl;
    }

pub take_first-requires-clause-words : goal.take_first-requires-clause-words
take_first-requires-clause-words g c =
    (first_waits number_in records_in seat_shows seat_steps g.N.ServiceName.policy
    c.args.pool.now.pool c.loop-number.pool.pool c.loop-number.self.words.items
    c.loop-number.self.parts.pool c.loop-number.invariant.under c.in-Some.number
    (sym c.in-Some.ensures)).0

pub take_first-requires-clause-new : goal.take_first-requires-clause-new
take_first-requires-clause-new g c =
    (first_waits number_in records_in seat_shows seat_steps g.N.ServiceName.policy
    c.args.pool.now.pool c.loop-number.pool.pool c.loop-number.self.words.items
    c.loop-number.self.parts.pool c.loop-number.invariant.under c.in-Some.number
    (sym c.in-Some.ensures)).1

pub loop-number-smaller : goal.loop-number-smaller
loop-number-smaller g c =
    one_fewer number_in records_in seat_shows seat_steps g.N.ServiceName.policy c.args.pool.now.pool
    c.in-Some.number c.loop-number.pool.pool c.take_first.new.pool.pool
    c.loop-number.self.words.items c.take_first.new.self.words.items
    c.loop-number.self.parts.pool c.take_first.new.self.parts.pool c.loop-number.invariant.under
    c.args.pool.now.each c.take_first.ensures.moved c.take_first.ensures.right
    c.take_first.ensures.words

pub loop-number-preserved : goal.loop-number-preserved
loop-number-preserved g c = record {
  under = one_over number_in records_in seat_shows seat_steps g.N.ServiceName.policy
      c.args.pool.now.pool c.in-Some.number c.loop-number.pool.pool c.take_first.new.pool.pool
      c.loop-number.self.words.items c.take_first.new.self.words.items
      c.loop-number.self.parts.pool c.take_first.new.self.parts.pool c.loop-number.invariant.under
      c.args.pool.now.each c.take_first.ensures.moved c.take_first.ensures.right
      c.take_first.ensures.words;
  rest = still_rest c.args.self.now c.loop-number.self c.take_first.new.self
      c.loop-number.invariant.rest c.take_first.ensures.rest;
}

pub returns-clause-over : goal.returns-clause-over
returns-clause-over g c =
    all_over number_in records_in seat_shows seat_steps g.N.ServiceName.policy c.args.pool.now.pool
    c.loop-number.pool.pool c.loop-number.self.words.items c.loop-number.self.parts.pool
    c.loop-number.invariant.under
    (mapped_none (λ (one : Kept _). number_in one.slots) _ (sym c.in_default.ensures))

pub returns-clause-filled : goal.returns-clause-filled
returns-clause-filled g c =
    let over =
    all_over number_in records_in seat_shows seat_steps g.N.ServiceName.policy c.args.pool.now.pool
    c.loop-number.pool.pool c.loop-number.self.words.items c.loop-number.self.parts.pool
    c.loop-number.invariant.under
    (mapped_none (λ (one : Kept _). number_in one.slots) _ (sym c.in_default.ensures)) in
    filled g.N.ServiceName.policy c.args.self.now c.loop-number.self c.requires.room c.requires.policy
    c.loop-number.invariant.rest c.loop-number.invariant.under.of
    c.loop-number.invariant.under.right
    (all_there number_in records_in seat_shows seat_steps g.N.ServiceName.policy c.args.pool.now.pool
    c.loop-number.self.parts.pool (length g.N.ServiceName.policy.segments) c.requires.all over)
