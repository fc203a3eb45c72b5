use Rattle.hg_page.proofs.BlocksLemmas.{used_block_in_page as law}
use Rattle.hg_page.proofs.laws.used_blocks_end_in_their_page.Goals as goal

pub returns : goal.returns
returns c = law
