use Rattle.hg_policy.proofs.Names.{length-tenants}
use Rattle.hg_policy_text.proofs.lines.standings.Goals as goal

pub returns-clause-granted : goal.returns-clause-granted
returns-clause-granted c = rw (length-tenants c.args.tenants.now.entries) (rw c.len.ensures.len at c.table.ensures.granted)

pub returns-clause-forbidden : goal.returns-clause-forbidden
returns-clause-forbidden c = rw (length-tenants c.args.tenants.now.entries) (rw c.len.ensures.len at c.table.ensures.forbidden)
