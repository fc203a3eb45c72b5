use Rattle.hg_machine.proofs.Listed.{no_delayed_no_thread_free as law}
use Rattle.hg_machine.proofs.laws.no_delayed_no_thread_free.Goals as goal

pub returns : goal.returns
returns c = law
