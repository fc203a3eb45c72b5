use Rattle.hg_run_table.proofs.NamedSteps.{take_tied}
use Rattle.hg_run_table.proofs.table.RunTable.take_list.Goals as goal

pub call_together-requires-clause-tied : goal.call_together-requires-clause-tied
call_together-requires-clause-tied g c = take_tied _ _ _ c.requires.below _ _ c.requires.held
