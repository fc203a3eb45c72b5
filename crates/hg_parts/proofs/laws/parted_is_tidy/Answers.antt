use Rattle.hg_parts.proofs.SpotChanges.{parted_out as law}
use Rattle.hg_parts.proofs.laws.parted_is_tidy.Goals as goal

pub returns : goal.returns
returns c = law
