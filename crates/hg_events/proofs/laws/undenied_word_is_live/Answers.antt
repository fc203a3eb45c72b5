use Rattle.hg_events.proofs.Elsewhere.{undenied_word_is_live as law}
use Rattle.hg_events.proofs.laws.undenied_word_is_live.Goals as goal

pub returns : goal.returns
returns c = law
