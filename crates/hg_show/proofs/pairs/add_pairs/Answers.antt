use Rattle.std.proofs.Common.{◌≡◌, length, arith}
use Rattle.hg_show.specs.Json.{pair_object}
use Rattle.hg_show.specs.Texts.{texts_in}
use Rattle.hg_show.proofs.TextLemmas.{number_each_more, number_each_all}
use Rattle.hg_show.proofs.pairs.add_pairs.Goals as goal

pub loop-actor-preserved : goal.loop-actor-preserved
loop-actor-preserved c = number_each_more (pair_object c.args.policy.now c.args.owner) c.loop-actor.actor (texts_in c.args.texts.now.items) (texts_in c.loop-actor.texts.items) (texts_in c.add.new.texts.items) c.loop-actor.invariant (rw c.in_ok-pair_object.ensures at c.in_ok-add.ensures)

pub returns : goal.returns
returns c =
    let ends : c.loop-actor.actor ≡ length c.args.policy.now.tenants = omega (arith, c.loop-actor-test.false, c.loop-actor.auto.actor-end, c.tenants-actor-end.ensures.tenants) in
    number_each_all (pair_object c.args.policy.now c.args.owner) c.loop-actor.actor (length c.args.policy.now.tenants) (texts_in c.args.texts.now.items) (texts_in c.loop-actor.texts.items) ends c.loop-actor.invariant
