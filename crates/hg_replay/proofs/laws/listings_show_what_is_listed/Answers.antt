use Rattle.hg_replay.proofs.Listed.{listings_show_what_is_listed as law}
use Rattle.hg_replay.proofs.laws.listings_show_what_is_listed.Goals as goal

pub returns : goal.returns
returns c = law
