use Rattle.hg_table.proofs.LifeLaws.{rule_kept}
use Rattle.hg_table.proofs.laws.steps_keep_the_rule.Goals as goal

pub returns : goal.returns
returns c = rule_kept
