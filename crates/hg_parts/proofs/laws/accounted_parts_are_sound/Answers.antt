use Rattle.hg_parts.proofs.Sound.{accounted_sound as law}
use Rattle.hg_parts.proofs.laws.accounted_parts_are_sound.Goals as goal

pub returns : goal.returns
returns c = law
