use Rattle.hg_choice.proofs.HiddenLemmas.{hidden_is_unreadable as law}
use Rattle.hg_choice.proofs.laws.hidden_is_unreadable.Goals as goal

pub returns : goal.returns
returns c = law
