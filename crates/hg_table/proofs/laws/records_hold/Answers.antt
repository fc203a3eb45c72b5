use Rattle.hg_table.proofs.LifeLaws.{hold}
use Rattle.hg_table.proofs.laws.records_hold.Goals as goal

pub returns : goal.returns
returns c = hold
