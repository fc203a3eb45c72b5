use Rattle.hg_bytes.proofs.CoreLaws.{writes_put_bytes as law}
use Rattle.hg_bytes.proofs.laws.writes_put_bytes.Goals as goal

pub returns : goal.returns
returns c = law
