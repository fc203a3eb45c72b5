use Rattle.hg_bytes.proofs.CoreLaws.{each_word_has_bytes as law}
use Rattle.hg_bytes.proofs.laws.each_word_has_bytes.Goals as goal

pub returns : goal.returns
returns c = law
