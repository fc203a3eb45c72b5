use Rattle.hg_machine.proofs.ShownLemmas.{words_decide as law}
use Rattle.hg_machine.proofs.laws.words_decide.Goals as goal

pub returns : goal.returns
returns c = law
