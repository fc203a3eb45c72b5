use Rattle.hg_bytes.proofs.EndLaws.{reads_end as law}
use Rattle.hg_bytes.proofs.laws.reads_end.Goals as goal

pub returns : goal.returns
returns c = law
