use Rattle.hg_parts.proofs.SpotPuts.{heap_put as law}
use Rattle.hg_parts.proofs.laws.heap_put_is_put.Goals as goal

pub returns : goal.returns
returns c = law
