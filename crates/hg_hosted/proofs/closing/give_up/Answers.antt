use Rattle.std.proofs.Common.{None, Some, ap, length, refl, subst, arith, rules}
use Rattle.atomic_table.specs.Seated.{TableId}
use Rattle.crossbeam_queue.specs.Passes.{view}
use Rattle.hg_machine.specs.Policy.{Policy}
use Rattle.hg_hosted.specs.Coming.{HaveLeft}
use Rattle.hg_hosted.specs.Shared.{table_of_shared}
use Rattle.hg_hosted.proofs.Named.{table_is, taken_of}
use Rattle.hg_hosted.proofs.Undone.{taken_as}
use Rattle.hg_hosted.proofs.closing.give_up.Goals as goal

pub gather-requires-clause-left : goal.gather-requires-clause-left
gather-requires-clause-left g c =
    let came = c.args.service.came.items in
    subst (λ (t : TableId). HaveLeft g.N.ServiceName.policy t came) (table_is c.requires.of)
    (subst (λ (p : Policy). HaveLeft p (table_of_shared c.args.service.shared) came)
    c.requires.policy c.args.service.left)

pub returns-in_default-take-clause-goes_on : goal.returns-in_default-take-clause-goes_on
returns-in_default-take-clause-goes_on g c = record {
  policy = search rules;
  table = search rules;
  places = search rules;
  came = search rules;
  reason = (
    search rules,
    None,
    taken_as c.take.result None c.args.service.shared.segments.kept
        (view c.args.service.shared.segments.pass).taken (search rules) (search rules)
        c.take.ensures.taken,
    refl,
  );
}

pub returns-in-Some-first_missing-clause-goes_on : goal.returns-in-Some-first_missing-clause-goes_on
returns-in-Some-first_missing-clause-goes_on g c = record {
  policy = search rules;
  table = search rules;
  places = search rules;
  came = search rules;
  reason = (
    search rules,
    Some c.in-Some-take.segments,
    taken_as c.take.result (Some c.in-Some-take.segments)
        c.args.service.shared.segments.kept (view c.args.service.shared.segments.pass).taken
        (search rules) (search rules) c.take.ensures.taken,
    search rules,
  );
}

pub with_name-pool-requires-clause-named : goal.with_name-pool-requires-clause-named
with_name-pool-requires-clause-named g c =
    (taken_of _ c.requires.of.segments c.in-Some-take.ensures.part).1

pub take_segments-requires-clause-all : goal.take_segments-requires-clause-all
take_segments-requires-clause-all g c = λ segment below.
    let same = ap (λ policy. length policy.segments) c.requires.policy in
    c.in_default-first_missing.ensures.none segment
    (omega (arith, below, same, c.segments.ensures.segments))
