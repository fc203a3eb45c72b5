use Rattle.hg_c.proofs.Named.{at_place}
use Rattle.hg_c.proofs.exports.hg_look.Goals as goal

pub returns-in-Some : goal.returns-in-Some
returns-in-Some c = at_place c.in-Some.place c.in-Some.ensures (rw c.actor_of-actor.ensures at c.serve_look.ensures)
