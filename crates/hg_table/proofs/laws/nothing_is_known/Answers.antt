use Rattle.hg_table.proofs.KnownLaws.{nothing_is_known as law}
use Rattle.hg_table.proofs.laws.nothing_is_known.Goals as goal

pub returns : goal.returns
returns c = law
