use Rattle.hg_events.proofs.Delivered.{deliver_is_served as law}
use Rattle.hg_events.proofs.laws.deliver_is_served.Goals as goal

pub returns : goal.returns
returns c = law
