use Rattle.hg_state.proofs.Coming.{coming_to_replays as law}
use Rattle.hg_state.proofs.laws.coming_to_replays.Goals as goal

pub returns : goal.returns
returns c = law
