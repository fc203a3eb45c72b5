use Rattle.hg_rows.proofs.AllocatingRuns.{charge_by_class_bytes as fact}
use Rattle.hg_rows.proofs.charge_by_class_bytes.Goals as goal

pub returns : goal.returns
returns c = fact
