use Rattle.hg_c.proofs.Named.{on_bank_part_handle}
use Rattle.hg_c.proofs.bank_service_exports.hg_bank_worker_free.Goals as goal

pub returns-in-Some : goal.returns-in-Some
returns-in-Some c = on_bank_part_handle c.in-Some.handle c.in-Some.ensures.handle c.in-Some.ensures.read (rw c.actor_of-actor.ensures at c.serve_bank_part.ensures)
