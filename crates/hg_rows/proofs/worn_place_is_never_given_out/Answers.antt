use Rattle.hg_rows.proofs.LivesRuns.{worn_place_is_never_given_out as fact}
use Rattle.hg_rows.proofs.worn_place_is_never_given_out.Goals as goal

pub returns : goal.returns
returns c = fact
