use Rattle.std.proofs.Common.{◌-◌, ◌<◌, length, sym, ap, subst, ◌∙◌, arith, set}
use Rattle.hg_machine.specs.declared.Answer.TheVariants as Answer
use Rattle.hg_machine.specs.declared.Event.TheVariants as Event
use Rattle.hg_bank.specs.Choosing.{IsServedIn}
use Rattle.hg_bank.specs.Requests.{has_segment_in}
use Rattle.hg_bank.proofs.AskedLemmas.{IsAsked, still, served_in, without_segment, with_segment}
use Rattle.hg_bank.proofs.ChargeLemmas.{charge_small}
use Rattle.hg_bank.proofs.CountedLemmas.{asked_small, asked_counted}
use Rattle.hg_bank.proofs.Searches.{first_found, none_found, one_more}
use Rattle.hg_bank.proofs.refilling.first_with_segment.Goals as goal

pub deposit-requires-clause-room : goal.deposit-requires-clause-room
deposit-requires-clause-room c tenant less =
    let below : c.from.result < length c.loop-number.cores.items =
    omega (arith, c.loop-number.cores.ok.0) in
    let few = asked_small c.loop-number.invariant.counted c.index_mut-core.ensures.value below
    (omega (arith, c.loop-number.cores.ok.0)) tenant less in
    let out = c.withdraw.ensures tenant less in
    let more = charge_small c.refill-refilled.new.self.state c.args.worker tenant
    c.refill-refilled.ensures.kept.0 in
    omega arith

pub returns-in-Ok-clause-served : goal.returns-in-Ok-clause-served
returns-in-Ok-clause-served c =
    let asked : IsAsked c.loop-number.cores.items c.from.result c.index_mut-core.result.now =
    record {
      there = c.index_mut-core.ensures.value;
      below = omega (arith, c.loop-number.cores.ok.0);
    } in
    let next = c.refill-refilled.new.self in
    let e = Event.Refill c.args.arena in
    let a = Answer.Refilled c.in-Ok.segment in
    let new = set c.loop-number.cores.items c.from.result next in
    subst (λ n. IsServedIn c.args.cores.now.items c.args.worker e n a new) c.from.ensures
    (subst (λ xs. IsServedIn xs c.args.worker e c.from.result a new) c.loop-number.invariant.items
    (served_in asked c.args.worker next e a c.in-Ok.ensures.chosen c.in-Ok.ensures.kept))

pub returns-in-Ok-clause-found : goal.returns-in-Ok-clause-found
returns-in-Ok-clause-found c =
    let items = c.loop-number.invariant.items in
    let asked : IsAsked c.loop-number.cores.items c.from.result c.index_mut-core.result.now =
    record {
      there = c.index_mut-core.ensures.value;
      below = omega (arith, c.loop-number.cores.ok.0);
    } in
    let there = with_segment asked c.args.worker c.refill-refilled.new.self c.args.arena
    c.in-Ok.segment c.in-Ok.ensures.chosen in
    let p = has_segment_in c.args.cores.now.items c.args.arena in
    first_found p c.args.first (c.args.past - c.args.first) c.loop-number.number
    (omega arith) (omega arith) c.loop-number.invariant.none
    (ap p (sym c.from.ensures)
    ∙ ap (λ xs. has_segment_in xs c.args.arena c.from.result) (sym items) ∙ there)

pub returns-in-Ok-clause-counted : goal.returns-in-Ok-clause-counted
returns-in-Ok-clause-counted c =
    let below : c.from.result < length c.loop-number.cores.items =
    omega (arith, c.loop-number.cores.ok.0) in
    asked_counted c.loop-number.invariant.counted c.index_mut-core.ensures.value below
    (Event.Refill c.args.arena) (Answer.Refilled c.in-Ok.segment) c.refill-refilled.new.self
    c.withdraw.new.row c.deposit.new.row c.in-Ok.ensures.chosen c.in-Ok.ensures.kept.0
    c.withdraw.ensures c.deposit.ensures

pub loop-number-preserved : goal.loop-number-preserved
loop-number-preserved c =
    let items = c.loop-number.invariant.items in
    let below : c.from.result < length c.loop-number.cores.items =
    omega (arith, c.loop-number.cores.ok.0) in
    let asked : IsAsked c.loop-number.cores.items c.from.result c.index_mut-core.result.now =
    record { there = c.index_mut-core.ensures.value; below = below } in
    let w = without_segment asked c.args.worker c.refill-refilled.new.self c.args.arena
    c.in_default.ensures.chosen in
    let p = has_segment_in c.args.cores.now.items c.args.arena in
    record {
      items = still asked c.args.worker c.refill-refilled.new.self w.0 ∙ items;
      len = c.loop-number.invariant.len;
      room = c.loop-number.invariant.room;
      counted = asked_counted c.loop-number.invariant.counted c.index_mut-core.ensures.value below
          (Event.Refill c.args.arena) Answer.NoSegment c.refill-refilled.new.self
          c.withdraw.new.row c.deposit.new.row c.in_default.ensures.chosen
          c.in_default.ensures.kept.0 c.withdraw.ensures c.deposit.ensures;
      none = one_more p c.args.first c.loop-number.number c.loop-number.invariant.none
          (ap p (sym c.from.ensures)
          ∙ ap (λ xs. has_segment_in xs c.args.arena c.from.result) (sym items) ∙ w.1);
    }

pub returns-clause-found : goal.returns-clause-found
returns-clause-found c =
    none_found (has_segment_in c.args.cores.now.items c.args.arena)
    c.args.first (c.args.past - c.args.first)
    (λ n low high. c.loop-number.invariant.none n low (omega arith))
