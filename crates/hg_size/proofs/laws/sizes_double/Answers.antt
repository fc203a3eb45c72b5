use Rattle.std.proofs.Common.{refl}
use Rattle.hg_size.proofs.laws.sizes_double.Goals as goal

pub returns : goal.returns
returns c = record { small = refl; doubled = refl; runs = refl }
