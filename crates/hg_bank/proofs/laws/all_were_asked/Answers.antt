use Rattle.hg_bank.proofs.RoomLemmas.{all_were_asked as law}
use Rattle.hg_bank.proofs.laws.all_were_asked.Goals as goal

pub returns : goal.returns
returns c = law
