use Rattle.hg_table.proofs.LifeLaws.{never_ahead}
use Rattle.hg_table.proofs.laws.seen_is_never_ahead.Goals as goal

pub returns : goal.returns
returns c = never_ahead
