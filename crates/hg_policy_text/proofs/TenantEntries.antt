-- What holds of the tenants that are read.
use Rattle.std.proofs.Common.{◌≡◌, ℕ, ◌<◌, ◌^◌, List, [], ◌∷◌, ◌++◌, length, Ok, Err, true, false, ◌∙◌, zero-add, arith, inl, inr, All}
use Rattle.std.proofs.lemmas.Bool.{cases_Bool}
use Rattle.std.proofs.lemmas.List.{length_push, map_push}
use Rattle.std.proofs.lemmas.List.Elements.{All-push, All-nil}
use Rattle.toml.specs.Data.{Members}
use Rattle.hg_machine.specs.Policy.{Tenant}
use Rattle.hg_policy_text.specs.declared.key.Key.TheVariants as key
use Rattle.hg_policy_text.specs.declared.key.Level.TheVariants as level
use Rattle.hg_policy_text.specs.Faults.{repeated}
use Rattle.hg_policy_text.specs.Values.{known_keys, whole_at}
use Rattle.hg_policy_text.specs.NameForm.{is_name, name_at}
use Rattle.hg_policy.specs.Names.{is_among}
use Rattle.hg_policy_text.specs.Tenants.{with_tenant, tenant_at, tenants_in}
use Rattle.hg_policy.specs.Names.{tenant_names}
use Rattle.hg_policy_text.specs.DocumentLaws.{AreNames}
use Rattle.hg_policy_text.proofs.DistinctNames.{name_at-formed, AreNames-nil, AreNames-push}
use Rattle.hg_policy_text.proofs.Chains.{bind_at, in_turn-keeps, in_turn-counts}
use Rattle.hg_policy_text.proofs.Wholes.{whole_at-range}

-- one more tenant, after those before
with_tenant-is : (done out : List Tenant) (name : List ℕ) (limit : ℕ) → with_tenant done name limit ≡ Ok out → (out ≡ done ++ record { name = name; limit = limit } ∷ []) × (is_among name (tenant_names done) ≡ false)
with_tenant-is done out name limit e =
    elim (cases_Bool (is_among name (tenant_names done))) [
      | inl there ↦ let f : Err (repeated name) ≡ Ok out = rw there at e in cc
      | inr new ↦ let f : Ok (done ++ record { name = name; limit = limit } ∷ []) ≡ Ok out = rw new at e in (cc, new)
    ]

record IsNext (done out : List Tenant) : Type 0 where
  tenant : Tenant
  is : out ≡ done ++ tenant ∷ []
  range : tenant.limit < 2 ^ 32
  new : is_among tenant.name (tenant_names done) ≡ false
  formed : is_name tenant.name ≡ true

tenant_at-is : (done : List Tenant) (entry : Members) (out : List Tenant) → tenant_at done entry ≡ Ok out → IsNext done out
unfolding tenant_at
tenant_at-is done entry out e =
    let (known, at1, e1) = bind_at (known_keys level.Tenant entry) _ out e in
    let (name, at2, e2) = bind_at (name_at key.Name entry) _ out e1 in
    let (limit, at3, e3) = bind_at (whole_at key.Limit 0 4294967295 entry) _ out e2 in
    let range = whole_at-range key.Limit 0 4294967295 entry limit at3 in
    let w = with_tenant-is done out name limit e3 in
    record { tenant = record { name = name; limit = limit }; is = w.0; range = omega (arith, range); new = w.1; formed = name_at-formed key.Name entry name at2 }

pub tenants_in-length : (entries : List Members) (out : List Tenant) → tenants_in entries ≡ Ok out → length out ≡ length entries
unfolding tenants_in
tenants_in-length entries out e =
    in_turn-counts tenant_at length (λ done entry next at. let n = tenant_at-is done entry next at in rw n.is (length_push done n.tenant)) [] entries out e ∙ zero-add (length entries)

pub tenants_in-limits : (entries : List Members) (out : List Tenant) → tenants_in entries ≡ Ok out → All (λ tenant. tenant.limit < 2 ^ 32) out
unfolding tenants_in
tenants_in-limits entries out e =
    in_turn-keeps tenant_at (λ (tenants : List Tenant). All (λ tenant. tenant.limit < 2 ^ 32) tenants)
    (λ done entry next at kept. let n = tenant_at-is done entry next at in rw n.is (All-push (λ (tenant : Tenant). tenant.limit < 2 ^ 32) done n.tenant kept n.range))
    [] entries out e (All-nil (λ (tenant : Tenant). tenant.limit < 2 ^ 32))

pub tenants_in-names : (entries : List Members) (out : List Tenant) → tenants_in entries ≡ Ok out → AreNames (tenant_names out)
unfolding tenants_in
tenants_in-names entries out e =
    in_turn-keeps tenant_at (λ (tenants : List Tenant). AreNames (tenant_names tenants))
    (λ done entry next at kept. let n = tenant_at-is done entry next at in rw (n.is, map_push (λ (tenant : Tenant). tenant.name) done n.tenant) (AreNames-push (tenant_names done) n.tenant.name kept n.new n.formed))
    [] entries out e AreNames-nil
