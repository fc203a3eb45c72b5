use Rattle.hg_table.proofs.LifeLaws.{are_seen}
use Rattle.hg_table.proofs.laws.words_are_seen.Goals as goal

pub returns : goal.returns
returns c = are_seen
