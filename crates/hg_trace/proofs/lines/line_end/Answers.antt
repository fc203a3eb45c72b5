use Rattle.hg_trace.specs.Lines.{ends_line}
use Rattle.hg_trace.proofs.Firsts.{position_found}
use Rattle.hg_trace.proofs.lines.line_end.Goals as goal

pub returns : goal.returns
returns c = position_found ends_line c.args.bytes.now _ c.memchr.ensures
