use Rattle.hg_events.proofs.LetGo.{held_is_unpooled as law}
use Rattle.hg_events.proofs.laws.held_is_unpooled.Goals as goal

pub returns : goal.returns
returns c = law
