use Rattle.hg_bank.proofs.SecondLemmas.{second_steps_are as law}
use Rattle.hg_bank.proofs.laws.second_steps_are.Goals as goal

pub returns : goal.returns
returns c = law
