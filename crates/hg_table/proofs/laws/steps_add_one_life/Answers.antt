use Rattle.hg_table.proofs.KnownLaws.{steps_add_one_life as law}
use Rattle.hg_table.proofs.laws.steps_add_one_life.Goals as goal

pub returns : goal.returns
returns c = law
