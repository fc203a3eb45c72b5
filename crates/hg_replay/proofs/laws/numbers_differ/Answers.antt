use Rattle.hg_replay.proofs.StatusLaws.{numbers_differ as law}
use Rattle.hg_replay.proofs.laws.numbers_differ.Goals as goal

pub returns : goal.returns
returns c = law
