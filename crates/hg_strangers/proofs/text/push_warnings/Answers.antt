use Rattle.hg_trace.specs.Stored.{lines_in}
use Rattle.hg_strangers.specs.Mentions.{seen}
use Rattle.hg_strangers.specs.Texts.{warning}
use Rattle.hg_strangers.proofs.Lists.{text_next}
use Rattle.hg_strangers.proofs.text.push_warnings.Goals as goal

pub loop-mention-preserved : goal.loop-mention-preserved
loop-mention-preserved c =
    text_next (warning c.args.policy.now (lines_in c.args.trace.now)) seen c.args.mentions.now c.loop-mention.mention-index _
    c.args.out.now.items c.loop-mention.out.items c.push_warning.new.out.items c.loop-mention-test.true c.loop-mention.invariant c.in_ok-push_warning.ensures
