use Rattle.hg_run_table.proofs.NamedSteps.{abandon_tied}
use Rattle.hg_run_table.proofs.table.RunTable.abandon.Goals as goal

pub call_together-requires-clause-tied : goal.call_together-requires-clause-tied
call_together-requires-clause-tied g c = abandon_tied _ _ _ c.requires.below _ _ c.requires.held
