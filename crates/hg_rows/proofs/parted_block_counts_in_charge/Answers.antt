use Rattle.hg_rows.proofs.PartingRuns.{parted_block_counts_in_charge as fact}
use Rattle.hg_rows.proofs.parted_block_counts_in_charge.Goals as goal

pub returns : goal.returns
returns c = fact
