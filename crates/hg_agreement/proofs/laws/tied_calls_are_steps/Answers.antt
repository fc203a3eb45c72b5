use Rattle.hg_agreement.proofs.Frames.{tied_calls_are_steps as law}
use Rattle.hg_agreement.proofs.laws.tied_calls_are_steps.Goals as goal

pub returns : goal.returns
returns c = law
