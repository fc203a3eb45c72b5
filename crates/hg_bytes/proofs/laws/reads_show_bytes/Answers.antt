use Rattle.hg_bytes.proofs.CoreLaws.{reads_show_bytes as law}
use Rattle.hg_bytes.proofs.laws.reads_show_bytes.Goals as goal

pub returns : goal.returns
returns c = law
