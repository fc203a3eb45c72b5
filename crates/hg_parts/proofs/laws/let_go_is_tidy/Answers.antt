use Rattle.hg_parts.proofs.Moved.{let_go_tidy as law}
use Rattle.hg_parts.proofs.laws.let_go_is_tidy.Goals as goal

pub returns : goal.returns
returns c = law
