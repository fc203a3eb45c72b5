use Rattle.hg_events.proofs.Delivered.{hand_is_unsent as law}
use Rattle.hg_events.proofs.laws.hand_is_unsent.Goals as goal

pub returns : goal.returns
returns c = law
