use Rattle.std.proofs.Common.{◌≡◌, ◌<◌, length, nat_lt, true, refl, sym, ap, ◌∙◌, arith}
use Rattle.std.proofs.lemmas.Bool.{ltb-true}
use Rattle.hg_machine.specs.Policy.{has_right}
use Rattle.hg_policy.specs.Kept.{tenants_of}
use Rattle.hg_policy.proofs.Names.{length-tenants}
use Rattle.hg_policy.proofs.GrantTable.{no_standing, rows_of-at}
use Rattle.hg_policy.proofs.policy.Policy.standing.Goals as goal

pub returns-in-Some-clause-found : goal.returns-in-Some-clause-found
returns-in-Some-clause-found c = λ right.
    let entries = c.self.inside.tenants.entries in
    let table = c.self.inside.standings.items in
    let owner = c.args.owner in
    let actor = c.args.actor.0 in
    let tenant : nat_lt actor (length (tenants_of entries)) ≡ true = rw (← c.self.view_is) at (sym c.is_tenant.ensures.tenant ∙ c.if-is_tenant.true) in
    let below : actor < length entries = omega (arith, ltb-true actor (length (tenants_of entries)) tenant, length-tenants entries) in
    let held = rw (c.from.ensures, c.deref.ensures.value) at c.in-Some.ensures.lookup in
    let within : owner < length table = ltb-true owner (length table) (sym held.0) in
    rw (← c.self.view_is, c.standing_in.ensures no_standing) (
      ap (λ rights. has_right rights right) (sym (rows_of-at (length entries) (λ standing. standing.granted) table owner actor c.in-Some.by_actor.now within held.1 below refl)),
      ap (λ rights. has_right rights right) (sym (rows_of-at (length entries) (λ standing. standing.forbidden) table owner actor c.in-Some.by_actor.now within held.1 below refl)),
    )
