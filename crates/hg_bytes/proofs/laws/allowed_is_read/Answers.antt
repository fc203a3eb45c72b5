use Rattle.hg_bytes.proofs.AllowedLaws.{allowed_is_read as law}
use Rattle.hg_bytes.proofs.laws.allowed_is_read.Goals as goal

pub returns : goal.returns
returns c = law
