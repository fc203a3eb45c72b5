-- Keys, rights and names that were read are known ones.
use Rattle.std.proofs.Common.{◌≡◌, ℕ, Bool, true, ◌||◌, List, [], ◌∷◌, ◌++◌, Some, None, Ok, Err, refl, sym, ap, ◌∙◌, inl, inr, codes}
use Rattle.std.specs.List.{list_any, list_all}
use Rattle.std.specs.Str.{bytes_eq}
use Rattle.std.proofs.Math.Bool.{or-false}
use Rattle.std.proofs.lemmas.Bool.{cases_Bool}
use Rattle.std.proofs.lemmas.List.{map_push}
use Rattle.toml.specs.Data.{Data, Members, no_members, member, string}
use Rattle.hg_place.specs.declared.Right.{Right}
use Rattle.hg_machine.specs.Policy.{Tenant, Rights, no_rights}
use Rattle.hg_policy_text.specs.declared.key.Level.{Level}
use Rattle.hg_policy_text.specs.Faults.{in_turn, repeated}
use Rattle.hg_policy_text.specs.Values.{value_at, elements_in, knows, first_unknown, known_keys, whole_at}
use Rattle.hg_policy_text.specs.NameForm.{name_at}
use Rattle.hg_policy.specs.Names.{is_among}
use Rattle.hg_policy_text.specs.Tenants.{tenant_at, tenants_in, with_tenant}
use Rattle.hg_policy.specs.Names.{tenant_names}
use Rattle.hg_policy_text.specs.Groups.{Group, group_names, group_members_in, group_at, groups_in, with_group, group_named}
use Rattle.hg_policy_text.specs.Grants.{right_in}
use Rattle.hg_policy.specs.Rights.{and_right}
use Rattle.hg_policy_text.specs.Lines.{with_right, rights_in}
use Rattle.hg_policy_text.specs.VersionLaws.{keys_in}
use Rattle.hg_policy_text.specs.SaidLaws.{is_text, says, right_text, has_only, has_keys, is_right}
use Rattle.hg_policy_text.proofs.Chains.{bind_at}
use Rattle.hg_policy_text.proofs.SaidWords.{in_turn-says, list_any-push, says-name, right_in-is}
use Rattle.hg_policy_laws.proofs.WholeTables.{in_turn-all, has_only-read}
use Rattle.hg_policy_laws.proofs.Versions.{none-Ok}
use Rattle.hg_place.specs.declared.Right.TheVariants as right
use Rattle.hg_policy_text.specs.declared.key.Key.TheVariants as key
use Rattle.hg_policy_text.specs.declared.key.Level.TheVariants as level

-- keys that are known
known-all : (l : Level) (members : Members) → first_unknown l members ≡ None → list_all (knows l) (keys_in members) ≡ true
unfolding first_unknown
known-all l no_members e = refl
known-all l (member k d rest) e = elim (cases_Bool (knows l k)) [
  | inl known ↦ let f : first_unknown l rest ≡ None = rw known at e in rw known (known-all l rest f)
  | inr strange ↦ let f : Some k ≡ None = rw strange at e in cc
]

all_same : {X : Type 0} (p q : X → Bool) → ((x : X) → p x ≡ q x) → (xs : List X) → list_all p xs ≡ list_all q xs
all_same p q same [] = refl
all_same p q same (x ∷ xs) = rw (same x, all_same p q same xs) refl

pub keys-known : (l : Level) (keys : List (List ℕ)) → ((k : List ℕ) → is_among k keys ≡ knows l k) → (entry : Members) (known : Bool) → known_keys l entry ≡ Ok known → has_keys keys entry ≡ true
unfolding known_keys
keys-known l keys same entry known e = all_same (λ k. is_among k keys) (knows l) same (keys_in entry) ∙ known-all l entry (none-Ok (first_unknown l entry) known e)

pub line-keys : (k : List ℕ) → is_among k (codes "owner" ∷ codes "to" ∷ codes "rights" ∷ []) ≡ knows level.Grant k
line-keys k = ap (λ b. bytes_eq k (codes "owner") || (bytes_eq k (codes "to") || b)) (or-false (bytes_eq k (codes "rights")))

pub group-keys : (k : List ℕ) → is_among k (codes "name" ∷ codes "members" ∷ []) ≡ knows level.Group k
group-keys k = ap (λ b. bytes_eq k (codes "name") || b) (or-false (bytes_eq k (codes "members")))

-- the words of rights
right-word : (q : Right) → is_right (string (right_text q)) ≡ true
right-word right.Read = refl
right-word _ = refl

pub rights_in-words : (value : Data) (rights : Rights) → rights_in value ≡ Ok rights → has_only is_right value ≡ true
rights_in-words value rights e =
    let (ds, at, rest) = bind_at (elements_in key.Rights value) (λ words. in_turn with_right no_rights words) rights e in
    has_only-read key.Rights is_right value ds at
    ∙ in_turn-all with_right is_right
    (λ done d next e.
    let (q, read, is) = bind_at (right_in d) (λ q. Ok (and_right done q)) next e in
    ap is_right (right_in-is d q read) ∙ right-word q)
    no_rights ds rights rest

-- the names of tenants
with_tenant-among : (text : List ℕ) (done out : List Tenant) (name : List ℕ) (limit : ℕ) → with_tenant done name limit ≡ Ok out → is_among text (tenant_names out) ≡ (is_among text (tenant_names done) || bytes_eq text name)
with_tenant-among text done out name limit e = elim (cases_Bool (is_among name (tenant_names done))) [
  | inl there ↦ let f : Err (repeated name) ≡ Ok out = rw there at e in cc
  | inr new ↦
      let tenant : Tenant = record { name = name; limit = limit } in
      let f : Ok (done ++ tenant ∷ []) ≡ Ok out = rw new at e in
      let g : done ++ tenant ∷ [] ≡ out = cc in
      rw (← g, map_push (λ (tenant : Tenant). tenant.name) done tenant) (list_any-push (λ other. bytes_eq text other) (tenant_names done) name)
]

pub tenants_in-among : (text : List ℕ) (entries : List Members) (tenants : List Tenant) → tenants_in entries ≡ Ok tenants → is_among text (tenant_names tenants) ≡ list_any (says key.Name (is_text text)) entries
unfolding tenants_in tenant_at
tenants_in-among text entries tenants e =
    in_turn-says tenant_at (λ _. Prim.Unit {0}) (λ done. is_among text (tenant_names done)) (says key.Name (is_text text))
    (λ done entry next e _.
    let (known, at1, e1) = bind_at (known_keys level.Tenant entry) _ next e in
    let (name, at2, e2) = bind_at (name_at key.Name entry) _ next e1 in
    let (limit, at3, e3) = bind_at (whole_at key.Limit 0 4294967295 entry) (λ limit. with_tenant done name limit) next e2 in
    (tt, with_tenant-among text done next name limit e3 ∙ ap (λ b. is_among text (tenant_names done) || b) (sym (says-name key.Name text entry name at2))))
    [] entries tenants e tt

-- the names of groups
with_group-among : (text : List ℕ) (tenants : List Tenant) (done out : List Group) (name : List ℕ) (members : List Bool) → with_group tenants done name members ≡ Ok out → is_among text (group_names out) ≡ (is_among text (group_names done) || bytes_eq text name)
with_group-among text tenants done out name members e = elim (cases_Bool (is_among name (tenant_names tenants) || is_among name (group_names done))) [
  | inl there ↦ let f : Err (repeated name) ≡ Ok out = rw there at e in cc
  | inr new ↦
      let group : Group = record { name = name; members = members } in
      let f : Ok (done ++ group ∷ []) ≡ Ok out = rw new at e in
      let g : done ++ group ∷ [] ≡ out = cc in
      rw (← g, map_push (λ (group : Group). group.name) done group) (list_any-push (λ other. bytes_eq text other) (group_names done) name)
]

pub groups_in-among : (text : List ℕ) (tenants : List Tenant) (entries : List Members) (groups : List Group) → groups_in tenants entries ≡ Ok groups → is_among text (group_names groups) ≡ list_any (says key.Name (is_text text)) entries
unfolding groups_in group_at
groups_in-among text tenants entries groups e =
    in_turn-says (group_at tenants) (λ _. Prim.Unit {0}) (λ done. is_among text (group_names done)) (says key.Name (is_text text))
    (λ done entry next e _.
    let (known, at1, e1) = bind_at (known_keys level.Group entry) _ next e in
    let (name, at2, e2) = bind_at (name_at key.Name entry) _ next e1 in
    let (value, at3, e3) = bind_at (value_at key.Members entry) _ next e2 in
    let (members, at4, e4) = bind_at (group_members_in tenants value) (λ members. with_group tenants done name members) next e3 in
    (tt, with_group-among text tenants done next name members e4 ∙ ap (λ b. is_among text (group_names done) || b) (sym (says-name key.Name text entry name at2))))
    [] entries groups e tt

pub group-among : (groups : List Group) (text : List ℕ) (flags : List Bool) → group_named groups text ≡ Some flags → is_among text (group_names groups) ≡ true
group-among [] text flags e = cc
group-among (g ∷ groups) text flags e = elim (cases_Bool (bytes_eq text g.name)) [
  | inl here ↦ rw here refl
  | inr other ↦ let f : group_named groups text ≡ Some flags = rw other at e in rw other (group-among groups text flags f)
]
