use Rattle.hg_reply.proofs.Apart.{replies_are_apart as law}
use Rattle.hg_reply.proofs.laws.replies_are_apart.Goals as goal

pub returns : goal.returns
returns c = law
