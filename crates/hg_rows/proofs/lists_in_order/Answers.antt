use Rattle.hg_rows.proofs.PartitionLemmas.{lists_in_order as fact}
use Rattle.hg_rows.proofs.lists_in_order.Goals as goal

pub returns : goal.returns
returns c = fact
