use Rattle.std.proofs.Common.{rules, arith, ◌≡◌, ◌<◌, ◌+◌, ap, subst}
use Rattle.std.specs.Arc.{arc_value}
use Rattle.hg_place.specs.declared.geometry.TheConstants.{SEGMENT_PLACES}
use Rattle.hg_place.specs.Lives.{live_word}
use Rattle.hg_place.specs.Places.{number_of}
use Rattle.hg_place.specs.Standings.{slot_of}
use Rattle.hg_table.specs.Steps.{open_as}
use Rattle.hg_table.proofs.Owned.{may_open, live_is}
use Rattle.hg_run_table.specs.Segments.{place_at, StepsIn}
use Rattle.hg_run_table.proofs.SegmentSteps.{answers, shown_at, stepped, by_first, first_may_open, opened_over}
use Rattle.hg_run_table.proofs.segment.RunSegmentSlotWords.open.Goals as goal

pub open_asked-requires-clause-may : goal.open_asked-requires-clause-may
open_asked-requires-clause-may c =
    let i = c.args.self.now in
    let place = c.args.place in
    let is : number_of place ≡ place_at i.segment (slot_of place) = omega (arith, c.requires.segment) in
    let below : slot_of place < SEGMENT_PLACES = omega (arith, place.page_below, place.index_below) in
    first_may_open _ _ _
    (may_open i.segment (slot_of place) (number_of place + 1) _ _ i.one i.first i.recorded i.sized below (ap (λ n. n + 1) is) c.in-Home.before c.args.owner c.pack-live.result _ c.standing.ensures c.in-Home.is c.pack-live.ensures (search rules) c.requires.owner)

pub open_asked-requires-clause-answers : goal.open_asked-requires-clause-answers
open_asked-requires-clause-answers c =
    let i = c.args.self.now in
    let place = c.args.place in
    let is : number_of place ≡ place_at i.segment (slot_of place) = omega (arith, c.requires.segment) in
    answers i.segment (slot_of place) (number_of place) i.seat i.one is (arc_value i.table).table.shared.key c.deref.result.now.table.shared.key (λ _. c.pack-live.result) (search rules)
    (λ word shown. search (rules, c.requires.allowed word shown))

pub returns-clause-step : goal.returns-clause-step
returns-clause-step c =
    let i = c.args.self.now in
    let place = c.args.place in
    let e = c.open_asked.ensures in
    let is : number_of place ≡ place_at i.segment (slot_of place) = omega (arith, c.requires.segment) in
    let live = live_is (c.in-Home.before + 1) c.args.owner c.pack-live.result c.pack-live.ensures (omega arith) (search rules) c.requires.owner in
    let word : c.pack-live.result ≡ live_word (c.in-Home.before + 1) c.args.owner = search rules in (
      e.left.0,
      shown_at i.segment (slot_of place) (number_of place) i.seat i.one is _ e.left.1,
      subst (λ w. StepsIn i.segment (slot_of place) e.left.0 w i.seat c.open_asked.new.seat) word
          (stepped i.segment (slot_of place) (number_of place) i.seat i.one is _ _ c.open_asked.new.seat
          (opened_over (number_of place + 1) e.left.0 c.pack-live.result _ _ i.one live.2 (by_first (open_as c.pack-live.result) (number_of place + 1) c.pack-live.result _ _ i.one e.lives))
          e.left.2 e.left.3 e.same),
    )
