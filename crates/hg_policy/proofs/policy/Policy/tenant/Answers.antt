use Rattle.std.proofs.Common.{◌∙◌}
use Rattle.hg_policy.proofs.Names.{position-tenants}
use Rattle.hg_policy.proofs.policy.Policy.tenant.Goals as goal

pub returns-in-Some-clause-number : goal.returns-in-Some-clause-number
returns-in-Some-clause-number c = rw (← c.self.view_is) (c.in-Some.ensures.index ∙ position-tenants c.args.name.now c.self.inside.tenants.entries)

pub returns-in-None-clause-number : goal.returns-in-None-clause-number
returns-in-None-clause-number c = rw (← c.self.view_is) (c.in-None.ensures.index ∙ position-tenants c.args.name.now c.self.inside.tenants.entries)
