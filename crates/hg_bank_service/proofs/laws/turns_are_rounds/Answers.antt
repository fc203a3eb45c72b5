use Rattle.hg_bank_service.proofs.Rounds.{turns_are_rounds as law}
use Rattle.hg_bank_service.proofs.laws.turns_are_rounds.Goals as goal

pub returns : goal.returns
returns c = law
