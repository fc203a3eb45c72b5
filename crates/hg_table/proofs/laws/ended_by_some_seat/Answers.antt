use Rattle.hg_table.proofs.LifeLaws.{by_some_seat}
use Rattle.hg_table.proofs.laws.ended_by_some_seat.Goals as goal

pub returns : goal.returns
returns c = by_some_seat
