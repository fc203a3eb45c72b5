use Rattle.hg_table.proofs.LifeLaws.{ends_ended}
use Rattle.hg_table.proofs.laws.what_ends_is_ended.Goals as goal

pub returns : goal.returns
returns c = ends_ended
