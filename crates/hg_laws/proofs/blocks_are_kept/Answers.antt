use Rattle.hg_laws.proofs.IntegrityLemmas.{blocks_are_kept as law}
use Rattle.hg_laws.proofs.blocks_are_kept.Goals as goal

pub returns : goal.returns
returns c = law
