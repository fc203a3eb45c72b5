use Rattle.hg_table.proofs.LifeLaws.{by_one_seat}
use Rattle.hg_table.proofs.laws.ended_by_one_seat.Goals as goal

pub returns : goal.returns
returns c = by_one_seat
