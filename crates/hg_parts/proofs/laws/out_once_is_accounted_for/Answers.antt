use Rattle.hg_parts.proofs.Accounted.{accounted as law}
use Rattle.hg_parts.proofs.laws.out_once_is_accounted_for.Goals as goal

pub returns : goal.returns
returns c = law
