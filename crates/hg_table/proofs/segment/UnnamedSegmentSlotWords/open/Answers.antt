use Rattle.std.proofs.Common.{rules, arith, ◌<◌, ◌+◌}
use Rattle.hg_place.specs.declared.geometry.TheConstants.{SEGMENT_PLACES}
use Rattle.hg_place.specs.Standings.{slot_of}
use Rattle.hg_table.proofs.Allowed.{opens}
use Rattle.hg_table.proofs.Told.{opened_told}
use Rattle.hg_table.proofs.Owned.{may_open, live_is}
use Rattle.hg_table.proofs.segment.UnnamedSegmentSlotWords.open.Goals as goal

pub store-requires : goal.store-requires
store-requires c =
    let i = c.args.self.now in
    let place = c.args.place in
    let below : slot_of place < SEGMENT_PLACES = omega (arith, place.page_below, place.index_below) in (
      search rules,
      search rules,
      opens _ _ _ _ _ (search rules) c.pack-live.result
          (may_open i.segment (slot_of place) c.word.result _ _ i.one i.first i.recorded i.sized below (search rules) c.in-Home.before c.args.owner c.pack-live.result _ c.standing.ensures c.in-Home.is c.pack-live.ensures (search rules) c.requires.owner),
    )

pub returns-clause-step : goal.returns-clause-step
returns-clause-step c = let i = c.args.self.now in let e = c.store.ensures.2 in
    let live = live_is (c.in-Home.before + 1) c.args.owner c.pack-live.result c.pack-live.ensures (omega arith) (search rules) c.requires.owner in
    let t = opened_told _ _ _ _ i.one live.2 e.0 e.1 in
    (t.0, search (rules, t.1), record { step = search (rules, t.2); same = search rules })
