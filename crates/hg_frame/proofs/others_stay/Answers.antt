use Rattle.hg_frame.proofs.WorkersLemmas.{others_stay as law}
use Rattle.hg_frame.proofs.others_stay.Goals as goal

pub returns : goal.returns
returns c = law
