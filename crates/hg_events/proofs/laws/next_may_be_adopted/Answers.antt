use Rattle.hg_events.proofs.NextUnheld.{next_may_be_adopted as law}
use Rattle.hg_events.proofs.laws.next_may_be_adopted.Goals as goal

pub returns : goal.returns
returns c = law
