use Rattle.hg_run_table.proofs.NamedSteps.{refill_tied}
use Rattle.hg_run_table.proofs.table.RunTable.refill.Goals as goal

pub call_together-requires-clause-tied : goal.call_together-requires-clause-tied
call_together-requires-clause-tied g c = refill_tied _ _ _ c.requires.below _ _ _ c.requires.next
