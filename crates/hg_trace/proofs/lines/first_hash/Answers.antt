use Rattle.hg_trace.specs.Lines.{is_hash}
use Rattle.hg_trace.proofs.Firsts.{position_found}
use Rattle.hg_trace.proofs.lines.first_hash.Goals as goal

pub returns : goal.returns
returns c = position_found is_hash c.args.bytes.now _ c.memchr.ensures
