use Rattle.std.proofs.Common.{rules, arith, ◌≡◌}
use Rattle.hg_place.specs.Places.{number_of}
use Rattle.hg_place.specs.Standings.{slot_of}
use Rattle.hg_run_table.specs.Segments.{place_at}
use Rattle.hg_run_table.proofs.SegmentMeeting.{Course, have_met, shown_first}
use Rattle.hg_run_table.proofs.segment.RunSegmentSlotWords.meet.Goals as goal

pub returns-clause-met : goal.returns-clause-met
returns-clause-met c =
    let i = c.args.self.now in
    let place = c.args.place in
    let is : number_of place ≡ place_at i.segment (slot_of place) = omega (arith, c.requires.segment) in
    let course : Course (number_of place) c.look-found.result i.seat c.split-blank.new.seat c.join.new.seat c.look-found.new.seat c.split.new.seat c.args.other.now c.split.result = record {
      one = i.one;
      alone_lives = c.split-blank.ensures.lives;
      alone_run = c.split-blank.ensures.run;
      both_lives = search (rules, c.join.ensures.lives);
      both_run = search (rules, c.join.ensures.run);
      shown = c.look-found.ensures.shown;
      apart = c.look-found.ensures.apart;
      seen_lives = c.look-found.ensures.lives;
      seen_run = c.look-found.ensures.run;
      new_lives = c.split.ensures.lives;
      new_run = c.split.ensures.run;
      given_lives = c.split.ensures.lives_given;
      given_run = c.split.ensures.run_given;
      same = search rules;
      same_other = search rules;
    } in
    have_met i.segment (slot_of place) (number_of place) _ _ _ _ _ _ _ _ is c.requires.may_meet course

pub returns-clause-shown : goal.returns-clause-shown
returns-clause-shown c =
    let i = c.args.self.now in
    let place = c.args.place in
    let is : number_of place ≡ place_at i.segment (slot_of place) = omega (arith, c.requires.segment) in
    shown_first i.segment (slot_of place) (number_of place) c.look-found.result _ _ c.replace-theirs.result.seat.me.0.lives _ is i.one c.split-blank.ensures.lives c.join.ensures.lives c.look-found.ensures.shown
