use Rattle.hg_rows.proofs.WorkedPolicyLemmas.{worked_policy_is_sound as fact}
use Rattle.hg_rows.proofs.worked_policy_is_sound.Goals as goal

pub returns : goal.returns
returns c = fact
