use Rattle.std.proofs.Common.{arith}
use Rattle.hg_core.proofs.Handed.{hand_told, no_hand}
use Rattle.hg_core.proofs.stores.Stores.hand.Goals as goal

pub returns-then-from-len : goal.returns-then-from-len
returns-then-from-len c =
    no_hand c.self.inside c.args.self.now c.args.worker c.self.view_is (omega arith)

pub returns : goal.returns
returns c =
    hand_told c.self.inside c.args.self.now c.from-2.result c.args.worker c.index.result.now
    c.self.view_is c.from-2.ensures (omega arith) c.index.ensures
