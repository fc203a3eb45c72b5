use Rattle.hg_bytes.proofs.CoreLemmas.{has_after}
use Rattle.hg_bytes.proofs.of_core.CoreWordStore.read.Goals as goal

pub returns-clause-still : goal.returns-clause-still
returns-clause-still c = has_after c.read.ensures.chosen c.requires
