use Rattle.hg_laws.proofs.ReadingLemmas.{reading_may_be_dropped as law}
use Rattle.hg_laws.proofs.reading_may_be_dropped.Goals as goal

pub returns : goal.returns
returns c = law
