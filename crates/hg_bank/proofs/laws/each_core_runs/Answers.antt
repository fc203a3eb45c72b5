use Rattle.hg_bank.proofs.LawLemmas.{each_core_runs as law}
use Rattle.hg_bank.proofs.laws.each_core_runs.Goals as goal

pub returns : goal.returns
returns c = law
