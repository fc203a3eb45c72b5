use Rattle.hg_machine.proofs.ShownLemmas.{one_word_one_block as law}
use Rattle.hg_machine.proofs.laws.one_word_one_block.Goals as goal

pub returns : goal.returns
returns c = law
