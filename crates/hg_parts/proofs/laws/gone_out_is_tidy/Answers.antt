use Rattle.hg_parts.proofs.SpotChanges.{gone_out as law}
use Rattle.hg_parts.proofs.laws.gone_out_is_tidy.Goals as goal

pub returns : goal.returns
returns c = law
