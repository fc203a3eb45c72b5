-- Sets of tenants as bits, and the lists that they stand for.
use Rattle.std.proofs.Common.{◌≡◌, ℕ, ◌*◌, ◌^◌, ◌%◌, ◌<◌, ◌≤◌, Bool, true, false, ◌||◌, ◌==◌, List, [], replicate, get_or, refl, sym, ap, ◌∙◌, inl, inr, arith, eq-eqb, max, zero, suc, bit_or, w64, Some, String, Global}
use Rattle.std.specs.Int.{bit_at}
use Rattle.std.specs.List.{list_any, slice_get}
use Rattle.std.proofs.Math.Bool.{or-true, or-false}
use Rattle.std.proofs.lemmas.Bool.{cases_eq}
use Rattle.std.proofs.lemmas.List.{length-replicate, get_or-replicate, get_or-map}
use Rattle.std.proofs.lemmas.List.FromFn.{fill_by_all, get_or-map-range_with_len, length-map-range_with_len}
use Rattle.std.proofs.lemmas.Option.{slice_get_within, get_or_from_slice_get}
use Rattle.std.proofs.lemmas.Nat.Bits.{bit_at_or, bit_at_ones, bit_at_set_same, bit_at_set_other}
use Rattle.hg_policy.specs.TenantSets.{just}
use Rattle.hg_policy.specs.Kept.{Named, admitted_of}
use Rattle.hg_policy.specs.TenantSets.{has_tenant, flags_of}
use Rattle.hg_policy.specs.declared.tenant_set.TenantSet.{TenantSet}
use Rattle.hg_policy.proofs.GrantTable.{ne-eqb}

pub each_bit : (tenant : ℕ) → tenant < 64 → (bit_at 18446744073709551615 tenant == 1) ≡ true
each_bit tenant within = ap (λ b. b == 1) (bit_at_ones 64 tenant within)

-- a word with one bit more
pub with_bit : (word tenant other : ℕ) → tenant < 64 → (bit_at (bit_or word (1 * 2 ^ tenant % 2 ^ 64)) other == 1) ≡ ((bit_at word other == 1) || tenant == other)
with_bit word tenant other within =
    elim (cases_eq other tenant) [
      | inl same ↦ rw (same, bit_at_set_same w64 word tenant within, eq-eqb tenant tenant refl, or-true (bit_at word tenant == 1)) refl
      | inr apart ↦ rw (bit_at_set_other w64 word tenant within other apart, ne-eqb tenant other (λ e. apart (sym e)), or-false (bit_at word other == 1)) refl
    ]

one_of : (x y : ℕ) → x ≤ 1 → y ≤ 1 → (max x y == 1) ≡ ((x == 1) || (y == 1))
one_of zero zero a b = refl
one_of zero (suc zero) a b = refl
one_of (suc zero) zero a b = refl
one_of (suc zero) (suc zero) a b = refl
one_of (suc (suc x)) y a b = absurd (omega arith)
one_of x (suc (suc y)) a b = absurd (omega arith)

-- the bits of either word
pub or_bits : (word more i : ℕ) → (bit_at (bit_or word more) i == 1) ≡ ((bit_at word i == 1) || (bit_at more i == 1))
or_bits word more i = ap (λ b. b == 1) (bit_at_or word more i) ∙ one_of (bit_at word i) (bit_at more i) (omega arith) (omega arith)

module _ (set : TenantSet) (tenants : ℕ) where
  pub flags-just : (members : List ℕ) → ((tenant : ℕ) → has_tenant set tenant ≡ list_any (λ member. member == tenant) members) → flags_of tenants set ≡ just tenants members
  flags-just members h =
      fill_by_all (λ tenant. list_any (λ member. member == tenant) members) (flags_of tenants set) tenants false (length-map-range_with_len (has_tenant set) 0 tenants)
      (λ k l. get_or-map-range_with_len (has_tenant set) 0 tenants k k false l (omega arith) ∙ h k)

  pub flags-each : tenants ≤ 64 → ((tenant : ℕ) → tenant < 64 → has_tenant set tenant ≡ true) → replicate tenants true ≡ flags_of tenants set
  flags-each few h =
      fill_by_all (has_tenant set) (replicate tenants true) tenants true (length-replicate tenants true)
      (λ k l. get_or-replicate tenants k true true l ∙ sym (h k (omega arith)))

-- whether an arena admits a tenant
pub admitted_of-at : (named : Named TenantSet) (tenants arena actor : ℕ) (name : String Global) (set : TenantSet) → Some (name, set) ≡ slice_get named arena → actor < tenants → get_or (get_or (admitted_of tenants named) arena []) actor false ≡ has_tenant set actor
admitted_of-at named tenants arena actor name set e within =
    let flags : String Global × TenantSet → List Bool = λ one. flags_of tenants one.1 in
    let at = get_or-map flags named arena (name, set) [] (slice_get_within named arena (name, set) (sym e)) ∙ ap flags (get_or_from_slice_get named arena (name, set) (name, set) (sym e)) in
    ap (λ row. get_or row actor false) at ∙ get_or-map-range_with_len (has_tenant set) 0 tenants actor actor false within (omega arith)
