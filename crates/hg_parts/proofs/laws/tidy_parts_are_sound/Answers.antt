use Rattle.hg_parts.proofs.Sound.{tidy_sound as law}
use Rattle.hg_parts.proofs.laws.tidy_parts_are_sound.Goals as goal

pub returns : goal.returns
returns c = law
