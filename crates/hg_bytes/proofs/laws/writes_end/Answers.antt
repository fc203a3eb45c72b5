use Rattle.hg_bytes.proofs.EndLaws.{writes_end as law}
use Rattle.hg_bytes.proofs.laws.writes_end.Goals as goal

pub returns : goal.returns
returns c = law
