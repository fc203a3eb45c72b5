use Rattle.std.proofs.Common.{length, refl}
use Rattle.hg_policy_text.specs.Arenas.{admitted_at}
use Rattle.hg_policy.proofs.Names.{length-tenants}
use Rattle.hg_policy.proofs.TenantBits.{flags-each}
use Rattle.hg_policy_text.proofs.exclusive.admitted.Goals as goal

pub returns-in-None : goal.returns-in-None
unfolding admitted_at
returns-in-None c =
    let entries = c.args.tenants.now.entries in
    rw (← c.in-None.ensures, length-tenants entries, flags-each c.each.result (length entries) c.requires c.each.ensures) refl
