use Rattle.hg_agreement.proofs.RightHeaps.{right_holdings_are_heaps as law}
use Rattle.hg_agreement.proofs.laws.right_holdings_are_heaps.Goals as goal

pub returns : goal.returns
returns c = law
