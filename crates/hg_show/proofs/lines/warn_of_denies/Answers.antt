use Rattle.std.proofs.Common.{map}
use Rattle.toml.specs.View.{view}
use Rattle.hg_show.specs.Texts.{texts_in}
use Rattle.hg_show.specs.Warnings.{deny_warnings}
use Rattle.hg_show.proofs.Places.{by_place_more}
use Rattle.hg_show.proofs.lines.warn_of_denies.Goals as goal

pub loop-i-preserved : goal.loop-i-preserved
loop-i-preserved c =
    by_place_more (deny_warnings c.args.policy.now (map view c.args.groups.now)) c.args.rows.now c.loop-i.i c.index-rows-i.result (texts_in c.args.texts.now.items) (texts_in c.loop-i.texts.items) (texts_in c.warn_of_deny.new.texts.items)
    c.loop-i-test.true c.index-rows-i.is c.loop-i.invariant c.in_ok-warn_of_deny.ensures
