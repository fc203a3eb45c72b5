use Rattle.hg_bank.proofs.LawLemmas.{others_stay as law}
use Rattle.hg_bank.proofs.laws.others_stay.Goals as goal

pub returns : goal.returns
returns c = law
