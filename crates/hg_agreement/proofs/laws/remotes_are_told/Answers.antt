use Rattle.hg_agreement.proofs.Told.{remotes_are_told as law}
use Rattle.hg_agreement.proofs.laws.remotes_are_told.Goals as goal

pub returns : goal.returns
returns c = law
