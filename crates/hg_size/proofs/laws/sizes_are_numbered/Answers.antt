use Rattle.hg_size.proofs.Table.{stands_at, number_below, numbers_apart}
use Rattle.hg_size.proofs.laws.sizes_are_numbered.Goals as goal

pub returns : goal.returns
returns c = record { stands = stands_at; below = number_below; apart = numbers_apart }
