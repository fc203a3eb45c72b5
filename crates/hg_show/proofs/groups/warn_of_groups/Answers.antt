use Rattle.std.proofs.Common.{map}
use Rattle.toml.specs.View.{view}
use Rattle.hg_show.specs.Texts.{texts_in}
use Rattle.hg_show.specs.Warnings.{group_warnings}
use Rattle.hg_show.proofs.TextLemmas.{viewed_more}
use Rattle.hg_show.proofs.groups.warn_of_groups.Goals as goal

pub loop-group-preserved : goal.loop-group-preserved
loop-group-preserved c =
    viewed_more view (group_warnings (map view c.args.grants.now) (map view c.args.denies.now)) c.args.groups.now c.loop-group.group-index c.group-item.result (texts_in c.args.texts.now.items) (texts_in c.loop-group.texts.items) (texts_in c.warn_of_group.new.texts.items)
    c.loop-group-test.true c.group-item.is c.loop-group.invariant c.in_ok-warn_of_group.ensures
