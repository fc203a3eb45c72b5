use Rattle.hg_bank_service.proofs.Rounds.{first_with_place_serves as law}
use Rattle.hg_bank_service.proofs.laws.first_with_place_serves.Goals as goal

pub returns : goal.returns
returns c = law
