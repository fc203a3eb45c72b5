use Rattle.hg_table.proofs.LifeLaws.{rule_forward}
use Rattle.hg_table.proofs.laws.the_rule_goes_forward.Goals as goal

pub returns : goal.returns
returns c = rule_forward
