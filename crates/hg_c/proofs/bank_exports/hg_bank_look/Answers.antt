use Rattle.hg_c.proofs.Named.{at_bank_place}
use Rattle.hg_c.proofs.bank_exports.hg_bank_look.Goals as goal

pub returns-in-Some : goal.returns-in-Some
returns-in-Some c = at_bank_place c.in-Some.place c.in-Some.ensures (rw (c.actor_of-actor.ensures, c.from.ensures) at c.serve_bank.ensures)
