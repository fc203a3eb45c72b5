use Rattle.hg_agreement.proofs.Told.{plain_segments_are_told as law}
use Rattle.hg_agreement.proofs.laws.plain_segments_are_told.Goals as goal

pub returns : goal.returns
returns c = law
