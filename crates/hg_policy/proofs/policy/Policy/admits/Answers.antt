use Rattle.std.proofs.Common.{◌≡◌, ◌<◌, length, nat_lt, true, sym, ◌∙◌, arith}
use Rattle.std.proofs.lemmas.Bool.{ltb-true}
use Rattle.hg_policy.specs.Kept.{tenants_of}
use Rattle.hg_policy.proofs.Names.{length-tenants}
use Rattle.hg_policy.proofs.TenantBits.{admitted_of-at}
use Rattle.hg_policy.proofs.policy.Policy.admits.Goals as goal

pub returns-then-is_tenant : goal.returns-then-is_tenant
returns-then-is_tenant c =
    let entries = c.self.inside.tenants.entries in
    let actor = c.args.actor.0 in
    let tenant : nat_lt actor (length (tenants_of entries)) ≡ true = rw (← c.self.view_is) at (sym c.is_tenant.ensures.tenant ∙ c.if-is_tenant.true) in
    let below : actor < length entries = omega (arith, ltb-true actor (length (tenants_of entries)) tenant, length-tenants entries) in
    rw (← c.self.view_is)
    (c.has.ensures ∙ sym (admitted_of-at c.self.inside.arenas.entries (length entries) c.args.arena actor c.in-Some.field-0-0.now c.in-Some.admitted.now (rw c.from.ensures at c.in-Some.ensures.entry) below))
