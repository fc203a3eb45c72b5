use Rattle.hg_laws.proofs.ArenasLemmas.{blocks_lie_in_the_arena as law}
use Rattle.hg_laws.proofs.blocks_lie_in_the_arena.Goals as goal

pub returns : goal.returns
returns c = law
