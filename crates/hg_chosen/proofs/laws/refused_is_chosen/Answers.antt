use Rattle.hg_chosen.proofs.Refusals.{refused_is_chosen as law}
use Rattle.hg_chosen.proofs.laws.refused_is_chosen.Goals as goal

pub returns : goal.returns
returns c = law
