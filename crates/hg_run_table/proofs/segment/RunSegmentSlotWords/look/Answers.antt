use Rattle.std.proofs.Common.{rules, arith, ◌≡◌}
use Rattle.std.specs.Arc.{arc_value}
use Rattle.hg_place.specs.Places.{number_of}
use Rattle.hg_place.specs.Standings.{slot_of}
use Rattle.hg_table.proofs.Told.{left_alone}
use Rattle.hg_run_table.specs.Segments.{place_at}
use Rattle.hg_run_table.proofs.SegmentSteps.{answers, shown_at, stepped}
use Rattle.hg_run_table.proofs.segment.RunSegmentSlotWords.look.Goals as goal

pub look_asked-requires-clause-answers : goal.look_asked-requires-clause-answers
look_asked-requires-clause-answers c =
    let i = c.args.self.now in
    let is : number_of c.args.place ≡ place_at i.segment (slot_of c.args.place) = omega (arith, c.requires.segment) in
    answers i.segment (slot_of c.args.place) (number_of c.args.place) i.seat i.one is (arc_value i.table).table.shared.key c.deref.result.now.table.shared.key (λ w. w) (search rules) c.requires.allowed

pub returns-clause-shown : goal.returns-clause-shown
returns-clause-shown c =
    let i = c.args.self.now in
    let is : number_of c.args.place ≡ place_at i.segment (slot_of c.args.place) = omega (arith, c.requires.segment) in
    shown_at i.segment (slot_of c.args.place) (number_of c.args.place) i.seat i.one is c.look_asked.result c.look_asked.ensures.shown

pub returns-clause-step : goal.returns-clause-step
returns-clause-step c =
    let i = c.args.self.now in
    let is : number_of c.args.place ≡ place_at i.segment (slot_of c.args.place) = omega (arith, c.requires.segment) in
    stepped i.segment (slot_of c.args.place) (number_of c.args.place) i.seat i.one is c.look_asked.result c.look_asked.result c.look_asked.new.seat
    (left_alone _ _ _ _ i.one c.look_asked.ensures.lives) c.look_asked.ensures.left c.look_asked.ensures.found c.look_asked.ensures.same
