use Rattle.hg_table.proofs.KnownLaws.{meetings_are_apart as law}
use Rattle.hg_table.proofs.laws.meetings_are_apart.Goals as goal

pub returns : goal.returns
returns c = law
