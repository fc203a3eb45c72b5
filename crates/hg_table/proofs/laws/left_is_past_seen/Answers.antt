use Rattle.hg_table.proofs.KnownLaws.{left_is_past_seen as law}
use Rattle.hg_table.proofs.laws.left_is_past_seen.Goals as goal

pub returns : goal.returns
returns c = law
