use Rattle.std.proofs.Common.{◌≡◌, length, arith}
use Rattle.hg_show.specs.Matrix.{actor_line}
use Rattle.hg_show.proofs.TextLemmas.{numbers_more, numbers_all}
use Rattle.hg_show.proofs.matrix.push_actor_lines.Goals as goal

pub loop-actor-preserved : goal.loop-actor-preserved
loop-actor-preserved c = numbers_more (actor_line c.args.policy.now c.args.band.now) c.loop-actor.actor c.args.out.now.items c.loop-actor.out.items c.push_actor.new.out.items c.loop-actor.invariant c.in_ok-push_actor.ensures

pub returns : goal.returns
returns c =
    let ends : c.loop-actor.actor ≡ length c.args.policy.now.tenants = omega (arith, c.loop-actor-test.false, c.loop-actor.auto.actor-end, c.tenants-actor-end.ensures.tenants) in
    numbers_all (actor_line c.args.policy.now c.args.band.now) c.loop-actor.actor (length c.args.policy.now.tenants) c.args.out.now.items c.loop-actor.out.items ends c.loop-actor.invariant
