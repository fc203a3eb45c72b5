use Rattle.hg_choice.proofs.ChoiceLemmas.{choices_are_determined as law}
use Rattle.hg_choice.proofs.laws.choices_are_determined.Goals as goal

pub returns : goal.returns
returns c = law
