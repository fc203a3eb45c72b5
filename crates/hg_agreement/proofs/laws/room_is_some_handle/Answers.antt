use Rattle.hg_agreement.proofs.Answers.{room_is_some_handle as law}
use Rattle.hg_agreement.proofs.laws.room_is_some_handle.Goals as goal

pub returns : goal.returns
returns c = law
