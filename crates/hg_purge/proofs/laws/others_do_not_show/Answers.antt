use Rattle.hg_purge.proofs.Purges.{others_do_not_show as law}
use Rattle.hg_purge.proofs.laws.others_do_not_show.Goals as goal

pub returns : goal.returns
returns c = law
