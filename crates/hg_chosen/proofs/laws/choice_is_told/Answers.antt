use Rattle.hg_chosen.proofs.ChoiceTold.{choice_is_told as law}
use Rattle.hg_chosen.proofs.laws.choice_is_told.Goals as goal

pub returns : goal.returns
returns c = law
