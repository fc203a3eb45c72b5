use Rattle.std.proofs.Common.{rules, arith, ◌≡◌, ◌∷◌, []}
use Rattle.hg_table.proofs.Allowed.{parts}
use Rattle.hg_table.proofs.Told.{shown_of, parted_of, parted_miss, left_of, out_of}
use Rattle.hg_table.proofs.worker.UnnamedWorker.part.Goals as goal

pub compare_exchange-found-requires : goal.compare_exchange-found-requires
compare_exchange-found-requires c =
    let is : c.args.self.now.badge.views ≡ c.into_seat-seat.result.me.0 ∷ [] = search rules in
    (search rules, search rules, parts _ _ _ _ _ (search rules) _ ((omega (arith, c.word.ensures), (out_of _ _ c.args.self.now.one is).0), c.requires.live))

pub returns-then-found-expected-clause-ok : goal.returns-then-found-expected-clause-ok
returns-then-found-expected-clause-ok c =
    let is : c.args.self.now.badge.views ≡ c.into_seat-seat.result.me.0 ∷ [] = search rules in
    let e = c.compare_exchange-found.ensures.2 in
    let hit = c.if-found-expected.true in (
      search (rules, hit, shown_of _ _ _ _ c.args.self.now.one is e.0),
      search (rules, parted_of _ _ _ _ c.into_badge.result.views _ c.compare_exchange-found.new.seat.me.0 c.args.self.now.one is c.into_badge.ensures.2 c.requires.live hit e.1),
    )

pub returns-else-found-expected-clause-err : goal.returns-else-found-expected-clause-err
returns-else-found-expected-clause-err c =
    let is : c.args.self.now.badge.views ≡ c.into_seat-seat.result.me.0 ∷ [] = search rules in
    let e = c.compare_exchange-found.ensures.2 in
    let miss = c.if-found-expected.false in
    (miss, search (rules, shown_of _ _ _ _ c.args.self.now.one is e.0), search (rules, left_of _ _ _ c.into_badge.result.views _ c.compare_exchange-found.new.seat.me.0 c.args.self.now.one is c.into_badge.ensures.2 (parted_miss _ _ _ _ _ miss e.1)))
