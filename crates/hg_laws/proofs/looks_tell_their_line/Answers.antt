use Rattle.hg_laws.proofs.RowsLemmas.{looks_tell_their_line as law}
use Rattle.hg_laws.proofs.looks_tell_their_line.Goals as goal

pub returns : goal.returns
returns c = law
