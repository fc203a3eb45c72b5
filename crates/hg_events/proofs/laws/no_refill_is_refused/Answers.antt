use Rattle.hg_events.proofs.Refilled.{no_refill_is_refused as law}
use Rattle.hg_events.proofs.laws.no_refill_is_refused.Goals as goal

pub returns : goal.returns
returns c = law
