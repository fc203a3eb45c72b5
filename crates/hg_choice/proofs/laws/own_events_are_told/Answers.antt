use Rattle.hg_choice.proofs.HiddenLemmas.{own_events_are_told as law}
use Rattle.hg_choice.proofs.laws.own_events_are_told.Goals as goal

pub returns : goal.returns
returns c = law
