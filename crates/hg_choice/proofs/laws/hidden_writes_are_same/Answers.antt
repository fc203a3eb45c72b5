use Rattle.hg_choice.proofs.HiddenLemmas.{hidden_writes_are_same as law}
use Rattle.hg_choice.proofs.laws.hidden_writes_are_same.Goals as goal

pub returns : goal.returns
returns c = law
