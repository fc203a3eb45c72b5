use Rattle.hg_parts.proofs.Swept.{swept_tidy as law}
use Rattle.hg_parts.proofs.laws.swept_is_tidy.Goals as goal

pub returns : goal.returns
returns c = law
