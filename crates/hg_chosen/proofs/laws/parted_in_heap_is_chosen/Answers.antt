use Rattle.hg_chosen.proofs.Parted.{parted_in_heap_is_chosen as law}
use Rattle.hg_chosen.proofs.laws.parted_in_heap_is_chosen.Goals as goal

pub returns : goal.returns
returns c = law
