-- Sets of tenants, and whom a name stands for.
use Rattle.std.proofs.Common.{◌≡◌, ℕ, ◌||◌, ◌==◌, Bool, true, false, List, [], ◌∷◌, get_or, Option, Some, refl, sym, ap, ◌∙◌, arith, string_bytes, cond, if◌then◌else◌}
use Rattle.std.specs.List.{list_any}
use Rattle.std.specs.Str.{bytes_eq}
use Rattle.std.specs.Map.{lookup}
use Rattle.std.specs.Option.{option_map}
use Rattle.std.proofs.Math.Bool.{or-false}
use Rattle.std.proofs.lemmas.List.FromFn.{fill_by_all, get_or-map-range_with_len, length-map-range_with_len}
use Rattle.std.specs.Option.{option_or}
use Rattle.std.proofs.lemmas.Option.{same_Some}
use Rattle.toml.specs.Data.{Data, as_str, string, integer, float, boolean, datetime, array, table}
use Rattle.hg_machine.specs.Policy.{Tenant}
use Rattle.hg_policy_text.specs.declared.key.Key.{Key}
use Rattle.hg_policy_text.specs.Faults.{or_fault, no_such_name}
use Rattle.hg_policy_text.specs.Groups.{Group, group_names, tenant_named, group_named, named_in}
use Rattle.hg_policy.specs.Kept.{Named, names_of}
use Rattle.hg_policy_text.specs.ReadTables.{groups_of}
use Rattle.hg_policy.specs.TenantSets.{just, either, has_tenant, flags_of}
use Rattle.hg_policy.specs.declared.tenant_set.TenantSet.{TenantSet}
use Rattle.hg_policy.proofs.TenantBits.{flags-just}

-- no tenant
pub flags-none : (n : ℕ) (set : TenantSet) → ((tenant : ℕ) → has_tenant set tenant ≡ false) → flags_of n set ≡ just n []
flags-none n set none = flags-just set n [] none

-- one tenant alone
pub flags-one : (n : ℕ) (none set : TenantSet) (tenant : ℕ) → ((other : ℕ) → has_tenant none other ≡ false) → ((other : ℕ) → has_tenant set other ≡ (has_tenant none other || tenant == other)) → flags_of n set ≡ just n (tenant ∷ [])
flags-one n none set tenant empty one =
    flags-just set n (tenant ∷ []) (λ other. one other ∙ ap (λ b. b || tenant == other) (empty other) ∙ sym (or-false (tenant == other)))

-- the tenants of either set
pub flags-either : (n : ℕ) (a b set : TenantSet) → ((tenant : ℕ) → has_tenant set tenant ≡ (has_tenant a tenant || has_tenant b tenant)) → flags_of n set ≡ either n (flags_of n a) (flags_of n b)
flags-either n a b set h =
    fill_by_all (λ tenant. get_or (flags_of n a) tenant false || get_or (flags_of n b) tenant false) (flags_of n set) n false (length-map-range_with_len (has_tenant set) 0 n)
    (λ k l.
    get_or-map-range_with_len (has_tenant set) 0 n k k false l (omega arith)
    ∙ h k
    ∙ ap (λ x. x || has_tenant b k) (sym (get_or-map-range_with_len (has_tenant a) 0 n k k false l (omega arith)))
    ∙ ap (λ x. get_or (flags_of n a) k false || x) (sym (get_or-map-range_with_len (has_tenant b) 0 n k k false l (omega arith))))

-- one tenant more
pub flags-with : (n : ℕ) (old set : TenantSet) (tenant : ℕ) → ((other : ℕ) → has_tenant set other ≡ (has_tenant old other || tenant == other)) → flags_of n set ≡ either n (flags_of n old) (just n (tenant ∷ []))
flags-with n old set tenant h =
    fill_by_all (λ other. get_or (flags_of n old) other false || get_or (just n (tenant ∷ [])) other false) (flags_of n set) n false (length-map-range_with_len (has_tenant set) 0 n)
    (λ k l.
    get_or-map-range_with_len (has_tenant set) 0 n k k false l (omega arith)
    ∙ h k
    ∙ ap (λ x. x || tenant == k) (sym (get_or-map-range_with_len (has_tenant old) 0 n k k false l (omega arith)))
    ∙ ap (λ x. get_or (flags_of n old) k false || x) (sym (get_or-map-range_with_len (λ other. list_any (λ member. member == other) (tenant ∷ [])) 0 n k k false l (omega arith) ∙ or-false (tenant == k))))

by_test : (b : Bool) (set : TenantSet) (n : ℕ) (o : Option TenantSet) (other : Option (List Bool)) → option_map (flags_of n) o ≡ other → option_map (flags_of n) (cond b (Some set) o) ≡ (if b then Some (flags_of n set) else other)
by_test true set n o other e = refl
by_test false set n o other e = e

-- a group by its name
pub group_named-is : (n : ℕ) (text : List ℕ) (named : Named TenantSet) → option_map (flags_of n) (lookup (λ key. bytes_eq text (string_bytes key)) named) ≡ group_named (groups_of n named) text
group_named-is n text [] = refl
group_named-is n text (one ∷ named) = by_test (bytes_eq text (string_bytes one.0)) one.1 n (lookup (λ key. bytes_eq text (string_bytes key)) named) (group_named (groups_of n named) text) (group_named-is n text named)

pub names-groups : (n : ℕ) (named : Named TenantSet) → group_names (groups_of n named) ≡ names_of named
names-groups n [] = refl
names-groups n (one ∷ named) = ap (λ names. string_bytes one.0 ∷ names) (names-groups n named)

-- what a text stands for
pub named_in-text : (k : Key) (tenants : List Tenant) (groups : List Group) (d : Data) (text : List ℕ) → Some text ≡ as_str d
    → named_in k tenants groups d ≡ or_fault (no_such_name text) (option_or (tenant_named tenants text) (group_named groups text))
named_in-text k tenants groups (string s) text e = rw (same_Some _ _ e)
named_in-text k tenants groups (integer z) text e = cc
named_in-text k tenants groups (float x) text e = cc
named_in-text k tenants groups (boolean b) text e = cc
named_in-text k tenants groups (datetime t) text e = cc
named_in-text k tenants groups (array a) text e = cc
named_in-text k tenants groups (table ms) text e = cc
