use Rattle.std.proofs.Common.{◌≡◌, length, arith, []}
use Rattle.hg_show.specs.Json.{pair_objects}
use Rattle.hg_show.specs.Texts.{texts_in}
use Rattle.hg_show.proofs.TextLemmas.{numbers_more, numbers_all}
use Rattle.hg_show.proofs.pairs.all_pairs.Goals as goal

pub loop-owner-preserved : goal.loop-owner-preserved
loop-owner-preserved c = numbers_more (pair_objects c.args.policy.now) c.loop-owner.owner [] (texts_in c.loop-owner.texts.items) (texts_in c.add_pairs.new.texts.items) c.loop-owner.invariant c.in_ok-add_pairs.ensures

pub returns : goal.returns
returns c =
    let ends : c.loop-owner.owner ≡ length c.args.policy.now.tenants = omega (arith, c.loop-owner-test.false, c.loop-owner.auto.owner-end, c.tenants-owner-end.ensures.tenants) in
    numbers_all (pair_objects c.args.policy.now) c.loop-owner.owner (length c.args.policy.now.tenants) [] (texts_in c.loop-owner.texts.items) ends c.loop-owner.invariant
