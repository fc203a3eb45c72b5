use Rattle.hg_laws.proofs.ReadingLemmas.{reading_changes_nothing as law}
use Rattle.hg_laws.proofs.reading_changes_nothing.Goals as goal

pub returns : goal.returns
returns c = law
