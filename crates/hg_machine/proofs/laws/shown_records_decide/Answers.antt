use Rattle.hg_machine.proofs.ShownLemmas.{shown_records_decide as law}
use Rattle.hg_machine.proofs.laws.shown_records_decide.Goals as goal

pub returns : goal.returns
returns c = law
