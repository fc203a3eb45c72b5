use Rattle.std.proofs.Common.{rules, arith, ◌≡◌, ◌<◌, ◌+◌, ℕ, ap, subst}
use Rattle.std.specs.Arc.{arc_value}
use Rattle.hg_place.specs.declared.geometry.TheConstants.{SEGMENT_PLACES}
use Rattle.hg_place.specs.Places.{number_of}
use Rattle.hg_place.specs.Standings.{slot_of}
use Rattle.hg_table.specs.Steps.{close_from, left_by}
use Rattle.hg_table.proofs.Owned.{may_close}
use Rattle.hg_table.proofs.Told.{left_alone, closed_miss, closed_ok}
use Rattle.hg_run_table.specs.Found.{IsFound}
use Rattle.hg_run_table.specs.Segments.{place_at}
use Rattle.hg_run_table.proofs.SegmentSteps.{answers, closing, shown_at, stepped, by_first, first_may_close, answered_hit, answered_miss}
use Rattle.hg_run_table.proofs.segment.RunSegmentSlotWords.close.Goals as goal

pub close_asked-found-requires-clause-may : goal.close_asked-found-requires-clause-may
close_asked-found-requires-clause-may c =
    let i = c.args.self.now in
    let place = c.args.place in
    let is : number_of place ≡ place_at i.segment (slot_of place) = omega (arith, c.requires.segment) in
    let below : slot_of place < SEGMENT_PLACES = omega (arith, place.page_below, place.index_below) in
    first_may_close _ _ _ (may_close i.segment (slot_of place) (number_of place + 1) _ _ i.one i.first i.recorded i.sized below (ap (λ n. n + 1) is) c.args.expected c.requires.live)

pub close_asked-found-requires-clause-answers : goal.close_asked-found-requires-clause-answers
close_asked-found-requires-clause-answers c =
    let i = c.args.self.now in
    let place = c.args.place in
    let is : number_of place ≡ place_at i.segment (slot_of place) = omega (arith, c.requires.segment) in
    answers i.segment (slot_of place) (number_of place) i.seat i.one is (arc_value i.table).table.shared.key c.deref.result.now.table.shared.key (left_by (close_from c.args.expected)) (search rules)
    (closing i.segment (slot_of place) (number_of place) i.seat i.one is (arc_value i.table).table.shared.key c.args.expected c.requires.hit c.requires.miss)

pub returns-then-found-expected-clause-err : goal.returns-then-found-expected-clause-err
returns-then-found-expected-clause-err c =
    let i = c.args.self.now in
    let place = c.args.place in
    let e = c.close_asked-found.ensures in
    let miss = c.if-found-expected.true in
    let is : number_of place ≡ place_at i.segment (slot_of place) = omega (arith, c.requires.segment) in (
      miss,
      shown_at i.segment (slot_of place) (number_of place) i.seat i.one is _ e.shown,
      stepped i.segment (slot_of place) (number_of place) i.seat i.one is _ _ c.close_asked-found.new.seat
          (left_alone _ _ _ _ i.one (closed_miss _ _ _ _ _ miss (by_first (close_from c.args.expected) _ _ _ _ i.one e.lives)))
          (answered_miss (number_of place) c.close_asked-found.result c.args.expected i.seat.seat.me.0.run c.close_asked-found.new.seat.seat.me.0.run miss e.left) e.found e.same,
      search rules,
    )

pub returns-clause-ok : goal.returns-clause-ok
returns-clause-ok c =
    let i = c.args.self.now in
    let place = c.args.place in
    let e = c.close_asked-found.ensures in
    let hit = c.if-found-expected.false in
    let is : number_of place ≡ place_at i.segment (slot_of place) = omega (arith, c.requires.segment) in
    let t = closed_ok (number_of place + 1) _ c.args.expected _ _ i.one c.requires.live hit e.shown (by_first (close_from c.args.expected) _ _ _ _ i.one e.lives) in (
      search (rules, t.0, ap (λ n. n + 1) is),
      stepped i.segment (slot_of place) (number_of place) i.seat i.one is _ _ c.close_asked-found.new.seat t.1
          (answered_hit (number_of place) c.close_asked-found.result c.args.expected i.seat.seat.me.0.run c.close_asked-found.new.seat.seat.me.0.run hit e.left) (subst (λ (w : ℕ). IsFound (number_of place) w i.seat.seat.me.0.run) hit e.found) e.same,
      search rules,
    )
