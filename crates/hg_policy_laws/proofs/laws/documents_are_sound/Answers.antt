use Rattle.hg_policy_text.proofs.Parts.{documents_are_sound as law}
use Rattle.hg_policy_laws.proofs.laws.documents_are_sound.Goals as goal

pub returns : goal.returns
returns c = law
