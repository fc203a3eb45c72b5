use Rattle.hg_c.proofs.Named.{at_part_place}
use Rattle.hg_c.proofs.service_exports.hg_worker_look.Goals as goal

pub returns-in-Some : goal.returns-in-Some
returns-in-Some c = at_part_place c.in-Some.place c.in-Some.ensures (rw c.actor_of-actor.ensures at c.serve_part.ensures)
