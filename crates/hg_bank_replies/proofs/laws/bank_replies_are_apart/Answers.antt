use Rattle.hg_bank_replies.proofs.Apart.{bank_replies_are_apart as law}
use Rattle.hg_bank_replies.proofs.laws.bank_replies_are_apart.Goals as goal

pub returns : goal.returns
returns c = law
