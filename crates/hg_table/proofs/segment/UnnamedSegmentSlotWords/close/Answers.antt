use Rattle.std.proofs.Common.{rules, arith, ◌<◌}
use Rattle.hg_place.specs.declared.geometry.TheConstants.{SEGMENT_PLACES}
use Rattle.hg_place.specs.Standings.{slot_of}
use Rattle.hg_table.proofs.Allowed.{closes}
use Rattle.hg_table.proofs.Told.{one_shown, left_alone, closed_miss, closed_ok}
use Rattle.hg_table.proofs.Owned.{may_close}
use Rattle.hg_table.proofs.segment.UnnamedSegmentSlotWords.close.Goals as goal

pub compare_exchange-found-requires : goal.compare_exchange-found-requires
compare_exchange-found-requires c =
    let i = c.args.self.now in
    let place = c.args.place in
    let below : slot_of place < SEGMENT_PLACES = omega (arith, place.page_below, place.index_below) in
    (search rules, search rules, closes _ _ _ _ _ (search rules) c.args.expected (may_close i.segment (slot_of place) c.word.result _ _ i.one i.first i.recorded i.sized below (search rules) c.args.expected c.requires.live))

pub returns-then-found-expected-clause-err : goal.returns-then-found-expected-clause-err
returns-then-found-expected-clause-err c = let i = c.args.self.now in let e = c.compare_exchange-found.ensures.2 in let miss = c.if-found-expected.true in
    (miss, search (rules, one_shown _ _ _ i.one e.0), record { step = search (rules, left_alone _ _ _ _ i.one (closed_miss _ _ _ _ _ miss e.1)); same = search rules }, search rules)

pub returns-clause-ok : goal.returns-clause-ok
returns-clause-ok c = let i = c.args.self.now in let e = c.compare_exchange-found.ensures.2 in let hit = c.if-found-expected.false in
    let t = closed_ok _ _ _ _ _ i.one c.requires.live hit e.0 e.1 in (search (rules, t.0), record { step = search (rules, t.1); same = search rules }, search rules)
