use Rattle.hg_rows.proofs.AllocatingRuns.{limit_before_room as fact}
use Rattle.hg_rows.proofs.limit_before_room.Goals as goal

pub returns : goal.returns
returns c = fact
