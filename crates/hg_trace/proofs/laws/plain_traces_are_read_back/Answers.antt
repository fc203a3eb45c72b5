use Rattle.hg_trace.proofs.PlainTraces.{plain_traces_are_read_back as law}
use Rattle.hg_trace.proofs.laws.plain_traces_are_read_back.Goals as goal

pub returns : goal.returns
returns c = law
