use Rattle.hg_events.proofs.WordAt.{heap_word_is_word_at as law}
use Rattle.hg_events.proofs.laws.heap_word_is_word_at.Goals as goal

pub returns : goal.returns
returns c = law
