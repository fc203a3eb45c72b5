use Rattle.hg_parts.proofs.Remotes.{delivered as law}
use Rattle.hg_parts.proofs.laws.delivered_is_tidy.Goals as goal

pub returns : goal.returns
returns c = law
