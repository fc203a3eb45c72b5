use Rattle.hg_trace.proofs.PlainPlaces.{places_are_their_texts as law}
use Rattle.hg_trace.proofs.laws.places_are_their_texts.Goals as goal

pub returns : goal.returns
returns c = law
