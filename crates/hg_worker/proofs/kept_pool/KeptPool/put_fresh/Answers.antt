use Rattle.std.proofs.Common.{◌++◌, sym, ap, ◌∙◌}
use Rattle.hg_pool.specs.Pooled.{Pooled}
use Rattle.hg_heap.proofs.ViewRoom.{found_one}
use Rattle.hg_worker.specs.Seats.{number_in, records_in}
use Rattle.hg_worker.proofs.Pools.{pool_amid, amid_there}
use Rattle.hg_worker.proofs.Tables.{more_on_table}
use Rattle.hg_worker.proofs.kept_pool.KeptPool.put_fresh.Goals as goal

pub never_twice-requires-clause-number : goal.never_twice-requires-clause-number
never_twice-requires-clause-number g c =
    let p = c.args.self.now.pool in
    sym c.number.ensures
    ∙ sym (found_one number_in records_in (p.orphans ++ p.fresh) c.number.result c.in-Some.other
    (sym c.in-Some.ensures.picked)).1

pub never_twice-requires-clause-table : goal.never_twice-requires-clause-table
never_twice-requires-clause-table g c =
    let p = c.args.self.now.pool in
    c.requires.named
    ∙ sym (c.args.self.now.named c.in-Some.other
    (found_one number_in records_in (p.orphans ++ p.fresh) c.number.result c.in-Some.other
    (sym c.in-Some.ensures.picked)).0)

pub invariant_of-self : goal.invariant_of-self
invariant_of-self g c =
    let p = c.args.self.now.pool in
    let put = c.put_fresh.ensures.fresh in
    let orphans = c.put_fresh.ensures.orphans
    ∙ ap (λ (q : Pooled _). q.orphans) c.in_default.ensures.unchanged in
    let fresh = sym put.2 ∙ ap (λ (q : Pooled _). q.fresh) c.in_default.ensures.unchanged in
    record {
      each = pool_amid number_in g.N.ServiceName.policy p.orphans p.fresh
          c.put_fresh.new.self.orphans c.put_fresh.new.self.fresh c.args.one put.0 put.1
          c.args.self.now.each c.requires.of orphans fresh put.3;
      named = λ k there.
          more_on_table (p.orphans ++ p.fresh) c.args.one c.args.self.now.named c.requires.named k
          (amid_there p.orphans p.fresh c.put_fresh.new.self.orphans c.put_fresh.new.self.fresh
          put.0 put.1 c.args.one k orphans fresh put.3 there);
    }
