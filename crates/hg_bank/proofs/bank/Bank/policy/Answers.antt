use Rattle.hg_bank.proofs.CallLemmas.{sound_as_seen}
use Rattle.hg_bank.proofs.bank.Bank.policy.Goals as goal

pub returns-clause-kept : goal.returns-clause-kept
returns-clause-kept c =
    sound_as_seen c.self.inside c.args.self.now c.self.view_is c.self.invariant
