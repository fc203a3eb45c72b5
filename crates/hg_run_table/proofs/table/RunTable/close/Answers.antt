use Rattle.hg_run_table.proofs.Endings.{ends}
use Rattle.hg_run_table.proofs.table.RunTable.close.Goals as goal

pub returns-clause-run : goal.returns-clause-run
returns-clause-run c = ends _ _ _ _ _ c.close_with.ensures.values.2
