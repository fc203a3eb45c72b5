use Rattle.hg_choice.proofs.ReaderLemmas.{may_read_is_verdict as law}
use Rattle.hg_choice.proofs.laws.may_read_is_verdict.Goals as goal

pub returns : goal.returns
returns c = law
