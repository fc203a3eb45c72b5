use Rattle.hg_bank.proofs.OpeningLemmas.{as_opened, opened_fields}
use Rattle.hg_bank.proofs.bank.Bank.open.Goals as goal

pub invariant_of-result : goal.invariant_of-result
invariant_of-result c =
    let f = opened_fields c.args.policy c.args.room c.workers-workers.result
    c.in_ok-cores.cores.items c.in_ok-currents.currents.items c.in_ok-sums.sums.items
    c.in_ok-cores.ensures.kept c.requires.some c.requires.most c.workers-workers.ensures.workers
    c.in_ok-cores.ensures.one c.in_ok-currents.ensures c.in_ok-sums.ensures in
    record { sound = f.0; room = c.in_ok-cores.ensures.room; rows = f.1; sums = f.2 }

pub returns-clause-opened : goal.returns-clause-opened
returns-clause-opened c =
    as_opened c.args.policy c.args.room c.workers-workers.result c.in_ok-cores.cores.items
    c.in_ok-currents.currents.items c.workers-workers.ensures.workers c.in_ok-cores.ensures.one
    c.in_ok-currents.ensures

pub returns-clause-kept : goal.returns-clause-kept
returns-clause-kept c = (invariant_of-result c).sound
