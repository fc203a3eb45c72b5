use Rattle.hg_page.proofs.BlocksLemmas.{blocks_share_no_word as law}
use Rattle.hg_page.proofs.laws.blocks_share_no_word.Goals as goal

pub returns : goal.returns
returns c = law
