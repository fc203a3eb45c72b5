use Rattle.hg_machine.proofs.ShownLemmas.{own_words_show as law}
use Rattle.hg_machine.proofs.laws.own_words_show.Goals as goal

pub returns : goal.returns
returns c = law
