use Rattle.hg_replay.proofs.Listed.{list_lines_print_listings as law}
use Rattle.hg_replay.proofs.laws.list_lines_print_listings.Goals as goal

pub returns : goal.returns
returns c = law
