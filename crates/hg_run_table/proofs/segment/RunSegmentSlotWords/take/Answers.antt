use Rattle.std.proofs.Common.{rules, arith, ◌≡◌, ◌<◌, ◌+◌, ◌%◌, ap}
use Rattle.hg_place.specs.declared.geometry.TheConstants.{SEGMENT_PLACES}
use Rattle.hg_place.specs.Places.{number_of}
use Rattle.hg_place.specs.Standings.{slot_of}
use Rattle.hg_table.specs.Steps.{take_home}
use Rattle.hg_table.proofs.Owned.{may_take}
use Rattle.hg_table.proofs.Told.{left_alone, took_live, taken}
use Rattle.hg_run_table.specs.Segments.{place_at}
use Rattle.hg_run_table.proofs.SegmentSteps.{shown_at, stepped, by_first, first_may_take, quiet_left}
use Rattle.hg_run_table.proofs.segment.RunSegmentSlotWords.take.Goals as goal

pub take-found-requires-clause-may : goal.take-found-requires-clause-may
take-found-requires-clause-may c =
    let i = c.args.self.now in
    let place = c.args.place in
    let is : number_of place ≡ place_at i.segment (slot_of place) = omega (arith, c.requires.segment) in
    let below : slot_of place < SEGMENT_PLACES = omega (arith, place.page_below, place.index_below) in
    first_may_take _ _ (may_take i.segment (slot_of place) (number_of place + 1) _ _ i.one i.first i.recorded i.sized below (ap (λ n. n + 1) is))

pub returns-then-found-eq1-clause-err : goal.returns-then-found-eq1-clause-err
returns-then-found-eq1-clause-err c =
    let i = c.args.self.now in
    let place = c.args.place in
    let e = c.take-found.ensures in
    let is : number_of place ≡ place_at i.segment (slot_of place) = omega (arith, c.requires.segment) in (
      search rules,
      shown_at i.segment (slot_of place) (number_of place) i.seat i.one is _ e.shown,
      stepped i.segment (slot_of place) (number_of place) i.seat i.one is _ _ c.take-found.new.seat
          (left_alone _ _ _ _ i.one (took_live _ _ _ _ (omega arith) (by_first take_home _ _ _ _ i.one e.lives)))
          (quiet_left _ _ _ _ c.requires.quiet e.run) e.found e.same,
      search rules,
    )

pub returns-clause-ok : goal.returns-clause-ok
returns-clause-ok c =
    let i = c.args.self.now in
    let place = c.args.place in
    let e = c.take-found.ensures in
    let freed : c.take-found.result % 2 ≡ 0 = omega arith in
    let is : number_of place ≡ place_at i.segment (slot_of place) = omega (arith, c.requires.segment) in (
      c.take-found.result,
      freed,
      shown_at i.segment (slot_of place) (number_of place) i.seat i.one is _ e.shown,
      stepped i.segment (slot_of place) (number_of place) i.seat i.one is _ _ c.take-found.new.seat
          (taken _ _ _ _ i.one freed (by_first take_home _ _ _ _ i.one e.lives))
          (quiet_left _ _ _ _ c.requires.quiet e.run) e.found e.same,
      search rules,
    )
