use Rattle.hg_rows.proofs.PartitionLemmas.{free_lists_out_of_order as fact}
use Rattle.hg_rows.proofs.free_lists_out_of_order.Goals as goal

pub returns : goal.returns
returns c = fact
