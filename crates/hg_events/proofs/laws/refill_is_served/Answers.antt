use Rattle.hg_events.proofs.Refilled.{refill_is_served as law}
use Rattle.hg_events.proofs.laws.refill_is_served.Goals as goal

pub returns : goal.returns
returns c = law
