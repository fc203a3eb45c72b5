use Rattle.hg_trace.proofs.LineCuts.{length-lines_of}
use Rattle.hg_trace.proofs.lines.Lines.new.Goals as goal

pub returns-clause-few : goal.returns-clause-few
returns-clause-few c = length-lines_of c.args.bytes.now
