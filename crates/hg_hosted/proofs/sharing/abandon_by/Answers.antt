use Rattle.std.proofs.Common.{sym, subst}
use Rattle.crossbeam_queue.specs.Passes.{view}
use Rattle.hg_machine.specs.declared.Answer.TheVariants as answer
use Rattle.hg_hosted.specs.Behind.{GivesUp}
use Rattle.hg_hosted.specs.Parking.{FitsKnown, KnowsName}
use Rattle.hg_hosted.specs.Parts.{HasSegments}
use Rattle.hg_hosted.specs.declared.parts.Segments.{Segments}
use Rattle.hg_hosted.proofs.Named.{put_of, taken_of}
use Rattle.hg_hosted.proofs.Undone.{gives_up_nothing, kept_fits, put_home}
use Rattle.hg_hosted.proofs.sharing.abandon_by.Goals as goal

pub returns-then-not-holds-clause-done : goal.returns-then-not-holds-clause-done
returns-then-not-holds-clause-done g c =
    let before = c.with_name-worker.result.inner in
    subst (λ own. GivesUp c.args.segment answer.NotHeld own.value c.without_name.result.value)
    c.with_name-worker.ensures
    (subst (λ own. GivesUp c.args.segment answer.NotHeld before.value own.value)
    (sym c.without_name.ensures)
    (gives_up_nothing before.value c.args.segment (sym c.if-not-holds.ensures)))

pub with_name-pool-requires-clause-named : goal.with_name-pool-requires-clause-named
with_name-pool-requires-clause-named g c =
    (taken_of _ c.requires.of.segments c.in-Some.ensures.part).1

pub put-requires-clause-part : goal.put-requires-clause-part
put-requires-clause-part g c =
    put_of
    (subst (KnowsName g.N.ServiceName.policy g.N.TableName.table) (sym c.take.ensures.known)
    c.requires.of.segments)
    c.without_name-2.ensures.of c.without_name-2.ensures.named

pub returns-clause-of : goal.returns-clause-of
returns-clause-of g c =
    let of = c.requires.of in
    let parts : Segments = record { pool = c.without_name-2.result } in
    let known =
    subst (KnowsName g.N.ServiceName.policy g.N.TableName.table) (sym c.take.ensures.known)
    of.segments in
    let parked =
    put_of {segments = parts} known c.without_name-2.ensures.of c.without_name-2.ensures.named in
    record {
      segments = subst (KnowsName g.N.ServiceName.policy g.N.TableName.table)
          (sym c.put.ensures.known) known;
      segments_kept = kept_fits HasSegments _ _ c.put.ensures.kept
          (subst (λ k. FitsKnown HasSegments k parts) (sym c.put.ensures.known) parked);
      left = of.left;
      left_kept = of.left_kept;
      all = of.all;
    }

pub returns-clause-home : goal.returns-clause-home
returns-clause-home g c = record {
  segments = put_home _ (view c.take.new.self.pass) (view c.put.new.self.pass) _ c.put.ensures.kept c.put.ensures.home
      (c.in-Some.ensures.out c.requires.home.segments);
  left = c.requires.home.left;
  lists = c.requires.home.lists;
}
