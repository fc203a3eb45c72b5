use Rattle.hg_table.proofs.LifeLaws.{words_forward}
use Rattle.hg_table.proofs.laws.words_go_forward.Goals as goal

pub returns : goal.returns
returns c = words_forward
