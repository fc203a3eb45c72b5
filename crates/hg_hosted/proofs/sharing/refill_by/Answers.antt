use Rattle.std.proofs.Common.{◌++◌, sym, subst, arith}
use Rattle.crossbeam_queue.specs.Passes.{view}
use Rattle.hg_heap.specs.Policies.{AreOf}
use Rattle.hg_machine.specs.declared.Answer.TheVariants as answer
use Rattle.hg_service.proofs.Behind.{came}
use Rattle.hg_worker.specs.Seats.{number_in, records_in, part_of_seat}
use Rattle.hg_worker.specs.Workers.{had_in}
use Rattle.hg_hosted.specs.Behind.{TakesOne}
use Rattle.hg_hosted.specs.Parking.{FitsKnown, KnowsName}
use Rattle.hg_hosted.specs.Parts.{HasSegments}
use Rattle.hg_hosted.specs.declared.parts.Segments.{Segments}
use Rattle.hg_hosted.proofs.Named.{put_of, taken_of}
use Rattle.hg_hosted.proofs.Undone.{kept_fits, put_home, takes_no_segment}
use Rattle.hg_hosted.proofs.sharing.refill_by.Goals as goal

pub returns-then-arena-ge-ARENAS-clause-done : goal.returns-then-arena-ge-ARENAS-clause-done
returns-then-arena-ge-ARENAS-clause-done g c =
    let before = c.with_name-worker.result.inner in
    subst (λ own. TakesOne c.args.arena answer.NoSegment own.value c.without_name.result.value)
    c.with_name-worker.ensures
    (subst (λ own. TakesOne c.args.arena answer.NoSegment before.value own.value)
    (sym c.without_name.ensures) (takes_no_segment before.value c.args.arena))

pub returns-in_default-clause-alone : goal.returns-in_default-clause-alone
returns-in_default-clause-alone g c =
    λ high. absurd (high (omega (arith, c.if-arena-ge-ARENAS.false)))

pub returns-clause-alone : goal.returns-clause-alone
returns-clause-alone g c = λ high. absurd (high (omega (arith, c.if-arena-ge-ARENAS.false)))

pub with_name-pool-requires-clause-named : goal.with_name-pool-requires-clause-named
with_name-pool-requires-clause-named g c =
    (taken_of _ c.requires.of.segments c.in-Some.ensures.part).1

pub put-requires-clause-part : goal.put-requires-clause-part
put-requires-clause-part g c =
    put_of
    (subst (KnowsName g.N.ServiceName.policy g.N.TableName.table) (sym c.take.ensures.known)
    c.requires.of.segments)
    c.without_name-2.ensures.of c.without_name-2.ensures.named

pub returns-clause-of : goal.returns-clause-of
returns-clause-of g c =
    let of = c.requires.of in
    let parts : Segments = record { pool = c.without_name-2.result } in
    let known =
    subst (KnowsName g.N.ServiceName.policy g.N.TableName.table) (sym c.take.ensures.known)
    of.segments in
    let parked =
    put_of {segments = parts} known c.without_name-2.ensures.of c.without_name-2.ensures.named in
    record {
      segments = subst (KnowsName g.N.ServiceName.policy g.N.TableName.table)
          (sym c.put.ensures.known) known;
      segments_kept = kept_fits HasSegments _ _ c.put.ensures.kept
          (subst (λ k. FitsKnown HasSegments k parts) (sym c.put.ensures.known) parked);
      left = of.left;
      left_kept = of.left_kept;
      all = of.all;
    }

pub returns-clause-done : goal.returns-clause-done
returns-clause-done g c =
    let said = c.refill_from-answer.ensures in
    let told = c.refill_from-answer.result in
    let before = c.with_name-worker.result.inner in
    let after = c.refill_from-answer.new.self.inner in
    let pool = c.with_name-pool.result.pool in
    let of =
    subst (λ policy. AreOf number_in policy (pool.orphans ++ pool.fresh))
    (sym c.with_name-worker.result.named.serves) c.with_name-pool.result.each in
    subst (λ own. TakesOne c.args.arena told own.value c.without_name-3.result.value)
    c.with_name-worker.ensures
    (subst (λ own. TakesOne c.args.arena told before.value own.value) (sym c.without_name-3.ensures)
    record {
      refilled = record {
        old = pool;
        new = c.refill_from-answer.new.pool.pool;
        of = of;
        refilled = said.refilled;
      };
      came = λ segment. came number_in records_in part_of_seat before.value.policy c.args.arena
          segment pool (had_in before.value) (had_in after.value) of
          c.refill_from-answer.new.pool.pool told said.refilled said.unheld;
      lives = said.lives;
      home = said.home;
      rest = said.rest;
    })

pub returns-clause-home : goal.returns-clause-home
returns-clause-home g c = record {
  segments = put_home _ (view c.take.new.self.pass) (view c.put.new.self.pass) _ c.put.ensures.kept c.put.ensures.home
      (c.in-Some.ensures.out c.requires.home.segments);
  left = c.requires.home.left;
  lists = c.requires.home.lists;
}
