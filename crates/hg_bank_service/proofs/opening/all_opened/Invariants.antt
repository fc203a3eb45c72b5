use Rattle.hg_bank_service.specs.Rows.{IsOpening}
use Rattle.hg_bank_service.proofs.opening.all_opened.Given as goal

abbrev pub invariant-loop : goal.invariant-loop
invariant-loop l = IsOpening l.policy l.counter l.services.items l.rows.items
