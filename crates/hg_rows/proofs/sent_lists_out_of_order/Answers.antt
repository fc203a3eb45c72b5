use Rattle.hg_rows.proofs.PartitionLemmas.{sent_lists_out_of_order as fact}
use Rattle.hg_rows.proofs.sent_lists_out_of_order.Goals as goal

pub returns : goal.returns
returns c = fact
