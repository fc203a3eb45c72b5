use Rattle.hg_events.proofs.Delivered.{deliver_is_refused as law}
use Rattle.hg_events.proofs.laws.deliver_is_refused.Goals as goal

pub returns : goal.returns
returns c = law
