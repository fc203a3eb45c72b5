use Rattle.hg_table.proofs.LifeLaws.{stays_ended}
use Rattle.hg_table.proofs.laws.ended_stays_ended.Goals as goal

pub returns : goal.returns
returns c = stays_ended
