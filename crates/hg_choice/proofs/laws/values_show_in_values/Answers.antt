use Rattle.hg_choice.proofs.ForgottenLemmas.{values_show_in_values as law}
use Rattle.hg_choice.proofs.laws.values_show_in_values.Goals as goal

pub returns : goal.returns
returns c = law
