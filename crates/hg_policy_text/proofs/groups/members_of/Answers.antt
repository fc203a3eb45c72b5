use Rattle.std.proofs.Common.{◌≡◌, ◌∷◌, [], ℕ, Ok, length, map, ap, sym, ◌∙◌, arith, refl}
use Rattle.std.proofs.lemmas.Result.{err_from_is_err_and}
use Rattle.toml.specs.View.{view}
use Rattle.hg_policy_text.specs.declared.key.Key.TheVariants as key
use Rattle.hg_policy_text.specs.Faults.{Read, in_turn, fault_of, ◌>>=◌}
use Rattle.hg_policy.specs.Kept.{tenants_of}
use Rattle.hg_policy_text.specs.Tenants.{number_in}
use Rattle.hg_policy_text.specs.Groups.{and_member}
use Rattle.hg_policy.specs.TenantSets.{just, either, flags_of}
use Rattle.hg_policy_text.proofs.Chains.{bind-fails}
use Rattle.hg_policy_text.proofs.TenantNumbers.{number_in-below}
use Rattle.hg_policy_text.proofs.InTurn.{in_turn-more, in_turn-stop, in_turn-end}
use Rattle.hg_policy.proofs.Names.{length-tenants}
use Rattle.hg_policy_text.proofs.Sets.{flags-none, flags-with}
use Rattle.hg_policy_text.proofs.groups.members_of.Goals as goal

pub with-members-requires : goal.with-members-requires
with-members-requires c =
    let below = number_in-below key.Members (tenants_of c.args.tenants.now.entries) (view c.name-item.result) c.in_ok-tenant.tenant c.in_ok-tenant.ensures in
    omega (arith, below, length-tenants c.args.tenants.now.entries, c.requires)

pub loop-name-init : goal.loop-name-init
loop-name-init c =
    rw (length-tenants c.args.tenants.now.entries, c.deref-name-items.ensures.value, flags-none (length c.args.tenants.now.entries) c.none-members.result c.none-members.ensures) refl

pub returns-in_err-tenant : goal.returns-in_err-tenant
returns-in_err-tenant c =
    let p = err_from_is_err_and c.from_residual.result c.from_residual.ensures.1 in
    let tenants = tenants_of c.args.tenants.now.entries in
    let done = flags_of (length c.args.tenants.now.entries) c.loop-name.members in
    rw (p.1, p.2) (in_turn-stop (and_member tenants) view done c.deref-name-items.result.now c.loop-name.name-index (in_turn (and_member tenants) (just (length tenants) []) (map view c.args.names.now.items)) c.loop-name.invariant c.name-item.result (omega arith)
    (fault_of c.in_err-tenant.field-0.0) (rw c.name-item.is at (bind-fails (fault_of c.in_err-tenant.field-0.0) (number_in key.Members tenants (view c.name-item.result)) (λ tenant. Ok (either (length tenants) done (just (length tenants) (tenant ∷ [])))) c.in_err-tenant.ensures)))

pub loop-name-preserved : goal.loop-name-preserved
loop-name-preserved c =
    let entries = c.args.tenants.now.entries in
    let tenants = tenants_of entries in
    let n = length entries in
    let done = flags_of n c.loop-name.members in
    let tenant = c.in_ok-tenant.tenant in
    let read : and_member tenants done (view c.name-item.result) ≡ Ok (either (length tenants) done (just (length tenants) (tenant ∷ []))) = ap (λ (r : Read ℕ). r >>= λ tenant. Ok (either (length tenants) done (just (length tenants) (tenant ∷ [])))) c.in_ok-tenant.ensures in
    let is : flags_of n c.with-members.result ≡ either (length tenants) done (just (length tenants) (tenant ∷ [])) = flags-with n c.loop-name.members c.with-members.result tenant c.with-members.ensures ∙ ap (λ m. either m done (just m (tenant ∷ []))) (sym (length-tenants entries)) in
    rw is
    (in_turn-more (and_member tenants) view done c.deref-name-items.result.now c.loop-name.name-index (in_turn (and_member tenants) (just (length tenants) []) (map view c.args.names.now.items)) c.loop-name.invariant c.name-item.result (omega arith)
    (either (length tenants) done (just (length tenants) (tenant ∷ []))) (rw c.name-item.is at read))

pub returns : goal.returns
returns c =
    let tenants = tenants_of c.args.tenants.now.entries in
    in_turn-end (and_member tenants) view (flags_of (length c.args.tenants.now.entries) c.loop-name.members) c.deref-name-items.result.now c.loop-name.name-index (in_turn (and_member tenants) (just (length tenants) []) (map view c.args.names.now.items)) c.loop-name.invariant (omega arith)
