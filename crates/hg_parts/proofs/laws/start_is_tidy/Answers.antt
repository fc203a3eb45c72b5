use Rattle.hg_parts.proofs.Starts.{start_tidy as law}
use Rattle.hg_parts.proofs.laws.start_is_tidy.Goals as goal

pub returns : goal.returns
returns c = law
