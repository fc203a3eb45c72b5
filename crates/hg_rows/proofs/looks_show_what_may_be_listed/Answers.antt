use Rattle.hg_rows.proofs.JudgingRuns.{looks_show_what_may_be_listed as fact}
use Rattle.hg_rows.proofs.looks_show_what_may_be_listed.Goals as goal

pub returns : goal.returns
returns c = fact
