use Rattle.hg_frame.proofs.RemotesLemmas.{remotes_stay as law}
use Rattle.hg_frame.proofs.remotes_stay.Goals as goal

pub returns : goal.returns
returns c = law
