use Rattle.hg_run_table.proofs.NamedSteps.{no_refill_tied}
use Rattle.hg_run_table.proofs.table.RunTable.refill_nothing.Goals as goal

pub call_together-requires-clause-tied : goal.call_together-requires-clause-tied
call_together-requires-clause-tied g c = no_refill_tied _ _ _ c.requires.below _ _ c.requires.none
