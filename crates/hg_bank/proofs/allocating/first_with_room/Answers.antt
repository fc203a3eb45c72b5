use Rattle.std.proofs.Common.{◌-◌, sym, ap, subst, ◌∙◌, arith, All}
use Rattle.hg_machine.specs.Request.{size_of}
use Rattle.hg_bank.specs.Choosing.{FitsIn}
use Rattle.hg_bank.specs.Requests.{has_room_in}
use Rattle.hg_bank.proofs.AskedLemmas.{IsAsked, still, without_room, with_room}
use Rattle.hg_bank.proofs.Searches.{first_found, none_found, one_more}
use Rattle.hg_bank.proofs.allocating.first_with_room.Goals as goal

pub returns-in-Ok-clause-found : goal.returns-in-Ok-clause-found
returns-in-Ok-clause-found c =
    let items = c.loop-number.invariant.items in
    let asked : IsAsked c.loop-number.cores.items c.from.result c.index_mut-core.result.now =
    record {
      there = c.index_mut-core.ensures.value;
      below = omega (arith, c.loop-number.cores.ok.0);
    } in
    let fits = subst (All (FitsIn c.args.worker c.args.actor c.args.arena c.args.bytes))
    (sym items) c.requires.fits in
    let size = size_of c.args.bytes in
    let room = with_room asked c.args.worker c.alloc.new.self c.args.actor c.args.arena
    c.args.bytes fits c.in-Ok.handle c.in-Ok.ensures.chosen in
    let p = has_room_in c.args.cores.now.items c.args.worker c.args.arena size in
    first_found p c.args.first (c.args.past - c.args.first) c.loop-number.number
    (omega arith) (omega arith) c.loop-number.invariant.none
    (ap p (sym c.from.ensures)
    ∙ ap (λ xs. has_room_in xs c.args.worker c.args.arena size c.from.result) (sym items) ∙ room)

pub loop-number-preserved : goal.loop-number-preserved
loop-number-preserved c =
    let items = c.loop-number.invariant.items in
    let asked : IsAsked c.loop-number.cores.items c.from.result c.index_mut-core.result.now =
    record {
      there = c.index_mut-core.ensures.value;
      below = omega (arith, c.loop-number.cores.ok.0);
    } in
    let fits = subst (All (FitsIn c.args.worker c.args.actor c.args.arena c.args.bytes))
    (sym items) c.requires.fits in
    let size = size_of c.args.bytes in
    let w = without_room asked c.args.worker c.alloc.new.self c.args.actor c.args.arena
    c.args.bytes fits c.in_default.field-0 c.in_default.ensures.chosen in
    let p = has_room_in c.args.cores.now.items c.args.worker c.args.arena size in
    record {
      items = still asked c.args.worker c.alloc.new.self w.0 ∙ items;
      len = c.loop-number.invariant.len;
      room = c.loop-number.invariant.room;
      none = one_more p c.args.first c.loop-number.number c.loop-number.invariant.none
          (ap p (sym c.from.ensures)
          ∙ ap (λ xs. has_room_in xs c.args.worker c.args.arena size c.from.result) (sym items)
          ∙ w.1);
    }

pub returns-clause-found : goal.returns-clause-found
returns-clause-found c =
    none_found
    (has_room_in c.args.cores.now.items c.args.worker c.args.arena (size_of c.args.bytes))
    c.args.first (c.args.past - c.args.first)
    (λ n low high. c.loop-number.invariant.none n low (omega arith))
