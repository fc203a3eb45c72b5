use Rattle.hg_c.proofs.Named.{at_bank_part_place}
use Rattle.hg_c.proofs.bank_service_exports.hg_bank_worker_look.Goals as goal

pub returns-in-Some : goal.returns-in-Some
returns-in-Some c = at_bank_part_place c.in-Some.place c.in-Some.ensures (rw (c.actor_of-actor.ensures, c.from.ensures) at c.serve_bank_part.ensures)
