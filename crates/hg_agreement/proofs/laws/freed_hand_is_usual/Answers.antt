use Rattle.hg_agreement.proofs.Hands.{freed_hand_is_usual as law}
use Rattle.hg_agreement.proofs.laws.freed_hand_is_usual.Goals as goal

pub returns : goal.returns
returns c = law
