use Rattle.std.proofs.Common.{sym, ap, length, arith}
use Rattle.hg_worker.specs.Seats.{number_in, records_in, seat_shows, seat_steps}
use Rattle.hg_service.proofs.Behind.{held_within, takes_nothing}
use Rattle.hg_service.proofs.worker.Worker.take.Goals as goal

pub returns-then-not-holds-clause-taken : goal.returns-then-not-holds-clause-taken
returns-then-not-holds-clause-taken g c =
    takes_nothing number_in records_in seat_shows seat_steps c.args.segment
    c.args.self.now.own.inner.value.heap (sym c.if-not-holds.ensures)

pub index-requires : goal.index-requires
index-requires g c =
    let own = c.args.self.now.own.inner.value in
    let below =
    held_within number_in own.policy own.heap.segments c.args.segment (sym c.if-not-holds.ensures)
    own.of in
    let same = ap (λ policy. length policy.segments) c.args.self.now.own.named.serves in
    let all = c.deref.result.now.all in
    let counted = c.deref.result.now.lists.ok.0 in
    let at = c.from.ensures in
    omega (arith, below, same, all, counted, at)

pub returns-clause-taken : goal.returns-clause-taken
returns-clause-taken g c = record {
  old = c.deref_mut-kept.result.now.list;
  new = c.drain.new.self.list;
  taken = c.drain.ensures.taken;
  whole = c.drain.ensures.whole;
  home = c.drain.ensures.home;
}
