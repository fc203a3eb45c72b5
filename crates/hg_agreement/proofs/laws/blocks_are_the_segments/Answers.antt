use Rattle.hg_agreement.proofs.Blocks.{blocks_are_the_segments as law}
use Rattle.hg_agreement.proofs.laws.blocks_are_the_segments.Goals as goal

pub returns : goal.returns
returns c = law
