use Rattle.hg_bytes.proofs.CoreLaws.{written_is_read as law}
use Rattle.hg_bytes.proofs.laws.written_is_read.Goals as goal

pub returns : goal.returns
returns c = law
