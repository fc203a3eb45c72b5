-- What holds of the arenas that are read.
use Rattle.std.proofs.Common.{◌≡◌, ℕ, ◌+◌, ◌-◌, ◌<◌, ◌≤◌, Bool, true, false, List, [], ◌∷◌, ◌++◌, length, take, replicate, get_or, nat_lt, ◌==◌, ◌||◌, Option, Some, None, Ok, Err, refl, ◌∙◌, zero-add, arith, inl, inr, All}
use Rattle.std.proofs.lemmas.Bool.{cases_Bool, ltb-false}
use Rattle.std.proofs.lemmas.List.{length_push, length-append, length-replicate, take_all}
use Rattle.std.proofs.lemmas.List.Elements.{All-push, All-nil, All-append, All-replicate, All-weaker}
use Rattle.std.specs.List.{list_any}
use Rattle.std.proofs.lemmas.List.FromFn.{length-map-range_with_len}
use Rattle.toml.specs.Data.{Data, Members}
use Rattle.hg_machine.specs.Policy.{Tenant}
use Rattle.hg_policy_text.specs.declared.key.Key.TheVariants as key
use Rattle.hg_policy_text.specs.declared.key.Counted.TheVariants as counted
use Rattle.hg_policy_text.specs.declared.key.Level.TheVariants as level
use Rattle.hg_policy_text.specs.Faults.{repeated, too_many, in_turn}
use Rattle.hg_policy_text.specs.Values.{field_at, known_keys, whole_at, or_else, elements_in}
use Rattle.hg_policy.specs.TenantSets.{just, either}
use Rattle.hg_policy_text.specs.Groups.{Group, named_in}
use Rattle.hg_policy_text.specs.NameForm.{is_name, name_at}
use Rattle.hg_policy.specs.Names.{is_among}
use Rattle.hg_policy_text.specs.Arenas.{Arenas, no_arenas, and_arena, with_arena, with_named, admitted_in, admitted_at, arena_at, arenas_in}
use Rattle.hg_policy_text.specs.DocumentLaws.{AreNames}
use Rattle.hg_policy_text.proofs.DistinctNames.{name_at-formed, AreNames-nil, AreNames-push}
use Rattle.hg_policy_text.proofs.Chains.{bind_at, in_turn-keeps, in_turn-counts}

-- the items of a list that is made longer
pub items-resize : (xs : List ℕ) (len more v n : ℕ) → len ≡ length xs → n ≡ len + more → take n xs ++ replicate (n - len) v ≡ xs ++ replicate more v
items-resize xs len more v n is e =
    let left : n - len ≡ more = omega (arith, e) in
    rw (take_all n xs (omega (arith, e, is)), left) refl

-- what holds of the arenas: whom each admits, by tenant, and an arena for each segment
pub record IsArenas (tenants : ℕ) (a : Arenas) : Type 0 where
  pub each : length a.admitted ≡ length a.names
  pub by_tenant : All (λ admitted. length admitted ≡ tenants) a.admitted
  pub in_arenas : All (λ arena. arena < length a.names) a.segments
  pub few : length a.segments ≤ 64
  pub names : AreNames a.names

pub with_arena-is : (done out : Arenas) (name : List ℕ) (segments : ℕ) (admitted : List Bool) → with_arena done name segments admitted ≡ Ok out → (out ≡ and_arena done name segments admitted) × (length done.segments + segments ≤ 64) × (is_among name done.names ≡ false)
with_arena-is done out name segments admitted e =
    elim (cases_Bool (is_among name done.names)) [
      | inl there ↦ let f : Err (repeated name) ≡ Ok out = rw there at e in cc
      | inr new ↦ elim (cases_Bool (nat_lt 64 (length done.segments + segments))) [
        | inl over ↦ let f : Err (too_many counted.Segments) ≡ Ok out = rw (new, over) at e in cc
        | inr fits ↦ let f : Ok (and_arena done name segments admitted) ≡ Ok out = rw (new, fits) at e in (cc, ltb-false 64 (length done.segments + segments) fits, new)
      ]
    ]

-- of each tenant it is said whether an arena admits it
length-admitted_in : (tenants : List Tenant) (groups : List Group) (value : Data) (admitted : List Bool) → admitted_in tenants groups value ≡ Ok admitted → length admitted ≡ length tenants
length-admitted_in tenants groups value admitted e =
    let n = length tenants in
    let (names, at, rest) = bind_at (elements_in key.Exclusive value) (λ names. in_turn (with_named tenants groups) (just n []) names) admitted e in
    in_turn-keeps (with_named tenants groups) (λ (flags : List Bool). length flags ≡ n)
    (λ done d next e kept.
    let (named, at, rest) = bind_at (named_in key.Exclusive tenants groups d) (λ named. Ok (either n done named)) next e in
    let f : either n done named ≡ next = cc in
    rw (← f) (length-map-range_with_len (λ tenant. get_or done tenant false || get_or named tenant false) 0 n))
    (just n []) names admitted rest (length-map-range_with_len (λ tenant. list_any (λ member. member == tenant) []) 0 n)

length-admitted_else : (tenants : List Tenant) (groups : List Group) (value : Option Data) (admitted : List Bool) → or_else (replicate (length tenants) true) (admitted_in tenants groups) value ≡ Ok admitted → length admitted ≡ length tenants
length-admitted_else tenants groups None admitted e =
    let f : replicate (length tenants) true ≡ admitted = cc in
    rw (← f) (length-replicate (length tenants) true)
length-admitted_else tenants groups (Some value) admitted e = length-admitted_in tenants groups value admitted e

length-admitted_at : (tenants : List Tenant) (groups : List Group) (entry : Members) (admitted : List Bool) → admitted_at tenants groups entry ≡ Ok admitted → length admitted ≡ length tenants
unfolding admitted_at
length-admitted_at tenants groups entry admitted e = length-admitted_else tenants groups (field_at key.Exclusive entry) admitted e

-- one more arena, after those before
record IsNext (tenants : List Tenant) (done out : Arenas) : Type 0 where
  name : List ℕ
  segments : ℕ
  admitted : List Bool
  is : out ≡ and_arena done name segments admitted
  fits : length done.segments + segments ≤ 64
  by_tenant : length admitted ≡ length tenants
  new : is_among name done.names ≡ false
  formed : is_name name ≡ true

arena_at-is : (tenants : List Tenant) (groups : List Group) (done : Arenas) (entry : Members) (out : Arenas) → arena_at tenants groups done entry ≡ Ok out → IsNext tenants done out
unfolding arena_at
arena_at-is tenants groups done entry out e =
    let (known, at1, e1) = bind_at (known_keys level.Arena entry) _ out e in
    let (name, at2, e2) = bind_at (name_at key.Name entry) _ out e1 in
    let (segments, at3, e3) = bind_at (whole_at key.Segments 0 9223372036854775807 entry) _ out e2 in
    let (admitted, at4, e4) = bind_at (admitted_at tenants groups entry) (λ admitted. with_arena done name segments admitted) out e3 in
    let w = with_arena-is done out name segments admitted e4 in
    record { name = name; segments = segments; admitted = admitted; is = w.0; fits = w.1; by_tenant = length-admitted_at tenants groups entry admitted at4; new = w.2; formed = name_at-formed key.Name entry name at2 }

pub arena_at-one : (tenants : List Tenant) (groups : List Group) (done : Arenas) (entry : Members) (out : Arenas) → arena_at tenants groups done entry ≡ Ok out → length out.names ≡ length done.names + 1
arena_at-one tenants groups done entry out e =
    let n = arena_at-is tenants groups done entry out e in
    rw n.is (length_push done.names n.name)

arena_at-keeps : (tenants : List Tenant) (groups : List Group) (done : Arenas) (entry : Members) (out : Arenas) → arena_at tenants groups done entry ≡ Ok out → IsArenas (length tenants) done → IsArenas (length tenants) out
arena_at-keeps tenants groups done entry out e kept =
    let n = arena_at-is tenants groups done entry out e in
    let more : length (done.names ++ n.name ∷ []) ≡ length done.names + 1 = length_push done.names n.name in
    rw n.is record {
      each = omega (arith, more, length_push done.admitted n.admitted, kept.each);
      by_tenant = All-push (λ (admitted : List Bool). length admitted ≡ length tenants) done.admitted n.admitted kept.by_tenant n.by_tenant;
      in_arenas = All-append (λ arena. arena < length (done.names ++ n.name ∷ [])) done.segments (replicate n.segments (length done.names))
          (All-weaker (λ arena. arena < length done.names) (λ arena. arena < length (done.names ++ n.name ∷ [])) (λ arena h. omega (arith, more, h)) done.segments kept.in_arenas)
          (All-replicate (λ arena. arena < length (done.names ++ n.name ∷ [])) n.segments (length done.names) (omega (arith, more)));
      few = omega (arith, length-append done.segments (replicate n.segments (length done.names)), length-replicate n.segments (length done.names), n.fits);
      names = AreNames-push done.names n.name kept.names n.new n.formed;
    }

pub arenas_in-length : (tenants : List Tenant) (groups : List Group) (entries : List Members) (out : Arenas) → arenas_in tenants groups entries ≡ Ok out → length out.names ≡ length entries
unfolding arenas_in
arenas_in-length tenants groups entries out e = in_turn-counts (arena_at tenants groups) (λ arenas. length arenas.names) (arena_at-one tenants groups) no_arenas entries out e ∙ zero-add (length entries)

pub arenas_in-holds : (tenants : List Tenant) (groups : List Group) (entries : List Members) (out : Arenas) → arenas_in tenants groups entries ≡ Ok out → IsArenas (length tenants) out
unfolding arenas_in
arenas_in-holds tenants groups entries out e =
    in_turn-keeps (arena_at tenants groups) (IsArenas (length tenants)) (arena_at-keeps tenants groups) no_arenas entries out e record {
      each = refl;
      by_tenant = All-nil (λ (admitted : List Bool). length admitted ≡ length tenants);
      in_arenas = All-nil (λ arena. arena < 0);
      few = omega arith;
      names = AreNames-nil;
    }
