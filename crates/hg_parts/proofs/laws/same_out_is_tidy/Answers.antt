use Rattle.hg_parts.proofs.SpotChanges.{same_out as law}
use Rattle.hg_parts.proofs.laws.same_out_is_tidy.Goals as goal

pub returns : goal.returns
returns c = law
