use Rattle.hg_run_table.proofs.NamedSteps.{deliver_tied}
use Rattle.hg_run_table.proofs.table.RunTable.deliver.Goals as goal

pub call_together-requires-clause-tied : goal.call_together-requires-clause-tied
call_together-requires-clause-tied g c = deliver_tied _ _ _ c.requires.below _ _ c.requires.hand
