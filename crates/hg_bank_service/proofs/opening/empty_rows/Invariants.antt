use Rattle.std.proofs.Common.{[]}
use Rattle.hg_bank_service.specs.Rows.{AreRows}
use Rattle.hg_bank_service.proofs.opening.empty_rows.Given as goal

abbrev pub invariant-loop : goal.invariant-loop
invariant-loop l = AreRows [] l.counter l.rows.items
