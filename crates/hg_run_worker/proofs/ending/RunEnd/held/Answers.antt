use Rattle.std.proofs.Common.{◌≡◌, ◌+◌, List, ◌++◌, Some, refl, sym, ap, subst, ◌∙◌, arith}
use Rattle.std.specs.Arc.{arc_value}
use Rattle.std.proofs.lemmas.List.{append-nil}
use Rattle.hg_segment.specs.Kept.{Kept}
use Rattle.hg_heap.specs.Held.{segment_in}
use Rattle.hg_roles.specs.Roles.{Role, of_segment}
use Rattle.hg_run_table.specs.declared.segment.RunSegment.{RunSegment}
use Rattle.hg_run_worker.specs.declared.ending.RunEnd.{RunEnd}
use Rattle.hg_run_worker.specs.AtWork.{IsSeated, number_in}
use Rattle.hg_run_worker.specs.Ending.{HasGathered}
use Rattle.hg_run_worker.proofs.SlotsLent.{at_position}
use Rattle.hg_run_worker.proofs.Gathered.{gathered_more, gathered_none, parts_below, seat_out}
use Rattle.hg_run_worker.proofs.ending.RunEnd.held.Goals as goal
use Rattle.hg_run_worker.proofs.ending.RunEnd.held.Goals.{After-release, in-Some, in_default}

pub loop-segment-init : goal.loop-segment-init
loop-segment-init c = record {
  same = refl;
  others = λ other low. refl;
  gathered = λ id roles has.
      subst (λ (rs : List Role). HasGathered id rs c.args.self.now) (sym (append-nil roles)) has;
}

-- the segment of the number is the one that was held at first
released : (c : After-release)
    → c.release.result ≡ segment_in number_in c.args.heap.segments c.loop-segment.segment
released c =
    c.release.ensures.released ∙ c.loop-segment.invariant.others c.loop-segment.segment (omega arith)

seated_then : (c : After-release) (one : Kept RunSegment) → c.release.result ≡ Some one
    → IsSeated (arc_value c.args.table.now).table.shared.table_id one.slots
seated_then c one is =
    c.requires.seated _ one
    (at_position c.args.heap.segments c.loop-segment.segment one (sym (released c) ∙ is))

pub part-requires-clause-same : goal.part-requires-clause-same
part-requires-clause-same c = c.loop-segment.invariant.same ∙ c.requires.same

pub part-requires-clause-of_it : goal.part-requires-clause-of_it
part-requires-clause-of_it c =
    (seat_out c.in-Some.one c.loop-segment.segment c.into_slots.result c.into_seat.result
    (seated_then (goal.at.part-requires-clause-of_it c).After-release c.in-Some.one c.in-Some.is)
    c.in-Some.ensures.number c.into_slots.ensures c.into_seat.ensures).0

pub loop-segment-preserved : goal.loop-segment-preserved
loop-segment-preserved c =
    let at = (goal.at.loop-segment-preserved c).After-release in
    let was = c.loop-segment.invariant in
    let s = c.args.heap.segments in
    let n = c.loop-segment.segment in
    record {
      same =
          elim c.match-release.branch as (λ _. c.match-release.self.seat.seat.table_id ≡ c.args.self.now.seat.seat.table_id) [
            | in-Some w ↦ ap (λ (e : RunEnd). e.seat.seat.table_id) w.self-is ∙ w.part.ensures.same ∙ was.same
            | in_default w ↦ ap (λ (e : RunEnd). e.seat.seat.table_id) w.self-is ∙ was.same
          ];
      others = λ other low.
          c.release.ensures.others other (λ e. absurd (omega (arith, low, e)))
          ∙ was.others other (omega (arith, low));
      gathered = λ id roles has.
          elim c.match-release.branch as (λ _. HasGathered id (roles ++ parts_below s (n + 1)) c.match-release.self) [
            | in-Some w ↦
                gathered_more roles s n w.in-Some.one c.match-release.self w.part.new.self
                (sym (released at) ∙ w.in-Some.is) w.self-is
                (w.part.ensures.gathered id (roles ++ parts_below s n) (of_segment n) (was.gathered id roles has)
                (seat_out w.in-Some.one n w.into_slots.result w.into_seat.result
                (seated_then at w.in-Some.one w.in-Some.is) w.in-Some.ensures.number w.into_slots.ensures
                w.into_seat.ensures).1)
            | in_default w ↦
                gathered_none roles s n c.match-release.self c.loop-segment.self
                (sym (released at) ∙ w.in_default.is) w.self-is (was.gathered id roles has)
          ];
    }

pub returns-clause-same : goal.returns-clause-same
returns-clause-same c = c.loop-segment.invariant.same

pub returns-clause-gathered : goal.returns-clause-gathered
returns-clause-gathered c id roles has =
    let all : c.loop-segment.segment ≡ 64 = omega arith in
    subst
    (λ n. HasGathered id (roles ++ parts_below c.args.heap.segments n) c.loop-segment.self) all
    (c.loop-segment.invariant.gathered id roles has)
