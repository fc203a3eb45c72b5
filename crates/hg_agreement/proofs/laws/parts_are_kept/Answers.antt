use Rattle.hg_agreement.proofs.Told.{parts_are_kept as law}
use Rattle.hg_agreement.proofs.laws.parts_are_kept.Goals as goal

pub returns : goal.returns
returns c = law
