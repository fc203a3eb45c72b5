use Rattle.std.proofs.Common.{◌≡◌, ◌+◌, List, ◌++◌, Contains, Some, refl, sym, ap, subst, ◌∙◌, arith}
use Rattle.std.proofs.lemmas.List.{append-nil}
use Rattle.hg_segment.specs.Kept.{Kept}
use Rattle.hg_heap.specs.Held.{segment_in}
use Rattle.hg_heap.proofs.ViewRoom.{found_one}
use Rattle.hg_pool.specs.Pooled.{Pooled}
use Rattle.hg_roles.specs.Roles.{Role, of_segment}
use Rattle.hg_run_table.specs.declared.segment.RunSegment.{RunSegment}
use Rattle.hg_run_worker.specs.declared.ending.RunEnd.{RunEnd}
use Rattle.hg_run_worker.specs.AtWork.{number_in, records_in}
use Rattle.hg_run_worker.specs.Ending.{HasGathered}
use Rattle.hg_run_worker.specs.Pools.{pooled_in}
use Rattle.hg_run_worker.proofs.Gathered.{gathered_more, gathered_none, others_stay, parts_below, seat_out}
use Rattle.hg_run_worker.proofs.ending.RunEnd.pooled.Goals as goal
use Rattle.hg_run_worker.proofs.ending.RunEnd.pooled.Goals.{After-pick, in-Some, in_default}

pub loop-segment-init : goal.loop-segment-init
loop-segment-init c = record {
  same = refl;
  others = λ other low. refl;
  gathered = λ id roles has.
      subst (λ (rs : List Role). HasGathered id rs c.args.self.now) (sym (append-nil roles)) has;
}

-- the segment of the number is the one that was there at first
picked : (c : After-pick)
    → c.pick.result ≡ segment_in number_in (pooled_in c.args.pool) c.loop-segment.segment
picked c =
    c.pick.ensures.picked ∙ c.loop-segment.invariant.others c.loop-segment.segment (omega arith)

found : (c : After-pick) (one : Kept RunSegment) → c.pick.result ≡ Some one
    → Contains (pooled_in c.args.pool) one × (number_in one.slots ≡ c.loop-segment.segment)
found c one is =
    found_one number_in records_in (pooled_in c.args.pool) c.loop-segment.segment one
    (sym (picked c) ∙ is)

pub part-requires-clause-same : goal.part-requires-clause-same
part-requires-clause-same c = c.loop-segment.invariant.same ∙ c.requires.same

pub part-requires-clause-of_it : goal.part-requires-clause-of_it
part-requires-clause-of_it c =
    let f = found (goal.at.part-requires-clause-of_it c).After-pick c.in-Some.one c.in-Some.is in
    (seat_out c.in-Some.one c.loop-segment.segment c.into_slots.result c.into_seat.result
    (c.requires.seated c.in-Some.one f.0) f.1 c.into_slots.ensures c.into_seat.ensures).0

pub loop-segment-preserved : goal.loop-segment-preserved
loop-segment-preserved c =
    let at = (goal.at.loop-segment-preserved c).After-pick in
    let was = c.loop-segment.invariant in
    let s = pooled_in c.args.pool in
    let n = c.loop-segment.segment in
    record {
      same =
          elim c.match-pick.branch as (λ _. c.match-pick.self.seat.seat.table_id ≡ c.args.self.now.seat.seat.table_id) [
            | in-Some w ↦ ap (λ (e : RunEnd). e.seat.seat.table_id) w.self-is ∙ w.part.ensures.same ∙ was.same
            | in_default w ↦ ap (λ (e : RunEnd). e.seat.seat.table_id) w.self-is ∙ was.same
          ];
      others = λ other low.
          ap (λ (p : Pooled RunSegment). segment_in number_in (pooled_in p) other) c.pick.ensures.left
          ∙ others_stay c.loop-segment.pool n other (λ e. absurd (omega (arith, low, e)))
          ∙ was.others other (omega (arith, low));
      gathered = λ id roles has.
          elim c.match-pick.branch as (λ _. HasGathered id (roles ++ parts_below s (n + 1)) c.match-pick.self) [
            | in-Some w ↦
                let f = found at w.in-Some.one w.in-Some.is in
                gathered_more roles s n w.in-Some.one c.match-pick.self w.part.new.self
                (sym (picked at) ∙ w.in-Some.is) w.self-is
                (w.part.ensures.gathered id (roles ++ parts_below s n) (of_segment n) (was.gathered id roles has)
                (seat_out w.in-Some.one n w.into_slots.result w.into_seat.result
                (c.requires.seated w.in-Some.one f.0) f.1 w.into_slots.ensures w.into_seat.ensures).1)
            | in_default w ↦
                gathered_none roles s n c.match-pick.self c.loop-segment.self
                (sym (picked at) ∙ w.in_default.is) w.self-is (was.gathered id roles has)
          ];
    }

pub returns-clause-same : goal.returns-clause-same
returns-clause-same c = c.loop-segment.invariant.same

pub returns-clause-gathered : goal.returns-clause-gathered
returns-clause-gathered c id roles has =
    let all : c.loop-segment.segment ≡ 64 = omega arith in
    subst
    (λ n. HasGathered id (roles ++ parts_below (pooled_in c.args.pool) n) c.loop-segment.self) all
    (c.loop-segment.invariant.gathered id roles has)
