use Rattle.hg_parts.proofs.Links.{put_others as law}
use Rattle.hg_parts.proofs.laws.plain_put_keeps_others.Goals as goal

pub returns : goal.returns
returns c = law
