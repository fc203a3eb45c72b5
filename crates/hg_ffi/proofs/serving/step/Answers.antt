use Rattle.std.proofs.Common.{rules}
use Rattle.hg_ffi.proofs.serving.step.Goals as goal

pub returns : goal.returns
returns c = rw c.in-Some.ensures.0 (search rules)
