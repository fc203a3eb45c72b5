use Rattle.hg_trace.proofs.ReadLines.{read_lines_are_plain as law}
use Rattle.hg_trace.proofs.laws.read_lines_are_plain.Goals as goal

pub returns : goal.returns
returns c = law
