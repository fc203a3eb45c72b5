use Rattle.hg_c.proofs.Named.{on_part_word}
use Rattle.hg_c.proofs.service_exports.hg_worker_read_words.Goals as goal

pub returns-in-Some : goal.returns-in-Some
returns-in-Some c = on_part_word c.in-Some.handle c.in-Some.ensures.handle c.in-Some.ensures.read (rw c.actor_of-actor.ensures at c.read_part.ensures)
