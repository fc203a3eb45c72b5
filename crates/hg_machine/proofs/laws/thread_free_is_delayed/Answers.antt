use Rattle.hg_machine.proofs.Listed.{thread_free_is_delayed as law}
use Rattle.hg_machine.proofs.laws.thread_free_is_delayed.Goals as goal

pub returns : goal.returns
returns c = law
