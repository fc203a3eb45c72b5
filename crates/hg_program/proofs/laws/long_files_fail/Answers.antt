use Rattle.hg_program.proofs.EndLaws.{long_files_fail as law}
use Rattle.hg_program.proofs.laws.long_files_fail.Goals as goal

pub returns : goal.returns
returns c = law
