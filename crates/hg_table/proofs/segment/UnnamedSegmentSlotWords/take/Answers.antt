use Rattle.std.proofs.Common.{rules, arith, ◌≡◌, ◌<◌, ◌%◌}
use Rattle.hg_place.specs.declared.geometry.TheConstants.{SEGMENT_PLACES}
use Rattle.hg_place.specs.Standings.{slot_of}
use Rattle.hg_table.proofs.Allowed.{takes}
use Rattle.hg_table.proofs.Told.{one_shown, left_alone, took_live, taken}
use Rattle.hg_table.proofs.Owned.{may_take}
use Rattle.hg_table.proofs.segment.UnnamedSegmentSlotWords.take.Goals as goal

pub load-found-requires : goal.load-found-requires
load-found-requires c =
    let i = c.args.self.now in
    let place = c.args.place in
    let below : slot_of place < SEGMENT_PLACES = omega (arith, place.page_below, place.index_below) in
    (search rules, search rules, takes _ _ _ _ _ (search rules) (may_take i.segment (slot_of place) c.word.result _ _ i.one i.first i.recorded i.sized below (search rules)))

pub returns-then-found-eq1-clause-err : goal.returns-then-found-eq1-clause-err
returns-then-found-eq1-clause-err c = let i = c.args.self.now in let e = c.load-found.ensures.2 in
    (search rules, search (rules, one_shown _ _ _ i.one e.0), record { step = search (rules, left_alone _ _ _ _ i.one (took_live _ _ _ _ (omega arith) e.1)); same = search rules }, search rules)

pub returns-clause-ok : goal.returns-clause-ok
returns-clause-ok c = let i = c.args.self.now in let e = c.load-found.ensures.2 in let freed : c.load-found.result % 2 ≡ 0 = omega arith in
    (c.load-found.result, freed, search (rules, one_shown _ _ _ i.one e.0), record { step = search (rules, taken _ _ _ _ i.one freed e.1); same = search rules }, search rules)
