use Rattle.hg_mask.proofs.MarksLemmas.{one_more}
use Rattle.hg_mask.proofs.starts.Goals as goal

pub loop-ahead-preserved : goal.loop-ahead-preserved
loop-ahead-preserved c page = one_more c.args.marks c.loop-ahead.starts c.loop-ahead.ahead page c.loop-ahead.invariant
