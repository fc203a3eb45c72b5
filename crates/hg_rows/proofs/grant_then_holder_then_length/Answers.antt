use Rattle.hg_rows.proofs.JudgingRuns.{grant_then_holder_then_length as fact}
use Rattle.hg_rows.proofs.grant_then_holder_then_length.Goals as goal

pub returns : goal.returns
returns c = fact
