use Rattle.hg_events.proofs.WordAt.{nowhere_word_is_zero as law}
use Rattle.hg_events.proofs.laws.nowhere_word_is_zero.Goals as goal

pub returns : goal.returns
returns c = law
