use Rattle.hg_bytes.proofs.BankLaws.{bank_writes_are_a_cores as law}
use Rattle.hg_bytes.proofs.laws.bank_writes_are_a_cores.Goals as goal

pub returns : goal.returns
returns c = law
