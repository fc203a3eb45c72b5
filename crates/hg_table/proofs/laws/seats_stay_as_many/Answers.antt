use Rattle.hg_table.proofs.LifeLaws.{stay_as_many}
use Rattle.hg_table.proofs.laws.seats_stay_as_many.Goals as goal

pub returns : goal.returns
returns c = stay_as_many
