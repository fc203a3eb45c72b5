-- The parts of a policy that was read.
use Rattle.std.proofs.Common.{◌≡◌, ℕ, ◌≤◌, ◌<◌, List, length, Ok, Err, refl, sym, ◌∙◌, ◌+◌, inl, inr, All, map, arith}
use Rattle.std.specs.List.{range_with_len}
use Rattle.std.proofs.lemmas.Bool.{cases_Bool, ltb-false}
use Rattle.std.proofs.Common.{nat_lt}
use Rattle.std.proofs.lemmas.List.FromFn.{length-map-range_with_len, get_or-map-range_with_len}
use Rattle.toml.specs.Data.{Members}
use Rattle.hg_machine.specs.Policy.{Policy, Tenant, Rights, no_rights}
use Rattle.hg_machine.specs.SoundPolicy.{IsSoundPolicy}
use Rattle.hg_policy_text.specs.declared.key.Key.{Key}
use Rattle.hg_policy_text.specs.declared.key.Counted.{Counted}
use Rattle.hg_policy_text.specs.declared.key.Key.TheVariants as key
use Rattle.hg_policy_text.specs.declared.key.Counted.TheVariants as counted
use Rattle.hg_policy_text.specs.Faults.{or_fault, not_toml, too_many, Read, ◌>>=◌}
use Rattle.hg_policy_text.specs.Values.{value_at, known_keys, entries_in, entries_at, at_most}
use Rattle.hg_policy_text.specs.Tenants.{tenants_in}
use Rattle.hg_policy.specs.Names.{tenant_names}
use Rattle.hg_policy_text.specs.Arenas.{Arenas, arenas_in}
use Rattle.hg_policy.specs.Rights.{all_rights}
use Rattle.hg_policy_text.specs.Groups.{Group, groups_in}
use Rattle.hg_policy_text.specs.Lines.{Line, lines_in, rights_by, table_by, granted_by, forbidden_by}
use Rattle.hg_policy_text.specs.Heads.{Heads, AreHeads, workers_at, max_generation_at, group_entries_at, line_entries_at, heads_at}
use Rattle.hg_policy_text.specs.Document.{Names, Said, policy_with, names_in, said_in, top_at, policy_from, tables_of, policy_at, tree_of, document_of}
use Rattle.hg_policy_text.specs.DocumentLaws.{AreNames, HasWholeTables}
use Rattle.hg_policy.specs.Kept.{Named, tenants_of}
use Rattle.hg_policy.proofs.Names.{length-tenants}
use Rattle.hg_policy_text.proofs.Chains.{bind_at, bind_assoc, bind_cong}
use Rattle.hg_policy_text.proofs.Wholes.{workers_at-range, max_generation_at-range}
use Rattle.hg_policy_text.proofs.TenantEntries.{tenants_in-length, tenants_in-limits, tenants_in-names}
use Rattle.hg_policy_text.proofs.ArenaEntries.{arenas_in-length, arenas_in-holds}
use Rattle.hg_policy_text.proofs.Sound.{policy_from-sound}

-- of what a policy is made
record IsRead (policy : Policy) : Type 0 where
  heads : Heads
  tenants : List Tenant
  arenas : Arenas
  groups : List Group
  grants : List Line
  denies : List Line
  is : policy ≡ policy_from heads tenants arenas grants denies
  are : AreHeads heads
  tenants_read : tenants_in heads.tenants ≡ Ok tenants
  arenas_read : arenas_in tenants groups heads.arenas ≡ Ok arenas

entries_at-few : (k : Key) (c : Counted) (most : ℕ) (members : Members) (out : List Members) → entries_at k c most members ≡ Ok out → length out ≤ most
unfolding entries_at
entries_at-few k c most members out e =
    let (entries, at, rest) = bind_at (value_at k members >>= entries_in k) (at_most most c) out e in
    elim (cases_Bool (nat_lt most (length entries))) [
      | inl over ↦ let f : Err (too_many c) ≡ Ok out = rw over at rest in cc
      | inr fits ↦
          let f : Ok entries ≡ Ok out = rw fits at rest in
          let same : entries ≡ out = cc in
          rw (← same) (ltb-false most (length entries) fits)
    ]

same_Ok : {A : Type 0} (x y : A) → let one : Read A = Ok x in let other : Read A = Ok y in one ≡ other → y ≡ x
same_Ok x y e = cc

pub heads_at-are : (members : Members) (heads : Heads) → heads_at members ≡ Ok heads → AreHeads heads
unfolding heads_at
heads_at-are members heads e =
    let (workers, at1, e1) = bind_at (workers_at members) _ heads e in
    let (greatest, at2, e2) = bind_at (max_generation_at members) _ heads e1 in
    let (tenants, at3, e3) = bind_at (entries_at key.Tenant counted.Tenants 64 members) _ heads e2 in
    let (arenas, at4, e4) = bind_at (entries_at key.Arena counted.Arenas 16 members) _ heads e3 in
    let (groups, at5, e5) = bind_at (group_entries_at members) _ heads e4 in
    let (grants, at6, e6) = bind_at (line_entries_at key.Grant members) _ heads e5 in
    let all : List Members → Heads = λ denies. record { workers = workers; greatest = greatest; tenants = tenants; arenas = arenas; groups = groups; grants = grants; denies = denies } in
    let (denies, at7, e7) = bind_at (line_entries_at key.Deny members) (λ denies. Ok (all denies)) heads e6 in
    let same : heads ≡ all denies = same_Ok (all denies) heads e7 in
    let some = workers_at-range members workers at1 in
    let generations = max_generation_at-range members greatest at2 in
    rw same record {
      some_worker = some.0;
      few_workers = some.1;
      some_generation = generations.0;
      generations_fit = generations.1;
      few_tenants = entries_at-few key.Tenant counted.Tenants 64 members tenants at3;
      few_arenas = entries_at-few key.Arena counted.Arenas 16 members arenas at4;
    }

tables_of-is : (heads : Heads) (policy : Policy) → AreHeads heads → tables_of heads ≡ Ok policy → IsRead policy
unfolding tables_of
tables_of-is heads policy are e =
    let (tenants, at1, e1) = bind_at (tenants_in heads.tenants) _ policy e in
    let (groups, at2, e2) = bind_at (groups_in tenants heads.groups) _ policy e1 in
    let (arenas, at3, e3) = bind_at (arenas_in tenants groups heads.arenas) _ policy e2 in
    let (grants, at4, e4) = bind_at (lines_in tenants groups heads.grants) _ policy e3 in
    let (denies, at5, e5) = bind_at (lines_in tenants groups heads.denies) (λ denies. Ok (policy_from heads tenants arenas grants denies)) policy e4 in
    record {
      heads = heads;
      tenants = tenants;
      arenas = arenas;
      groups = groups;
      grants = grants;
      denies = denies;
      is = same_Ok (policy_from heads tenants arenas grants denies) policy e5;
      are = are;
      tenants_read = at1;
      arenas_read = at3;
    }

policy_at-is : (members : Members) (policy : Policy) → policy_at members ≡ Ok policy → IsRead policy
unfolding policy_at
policy_at-is members policy e =
    let (top, at1, e1) = bind_at (top_at members) _ policy e in
    let (known, at2, e2) = bind_at (known_keys top members) _ policy e1 in
    let (heads, at3, e3) = bind_at (heads_at members) tables_of policy e2 in
    tables_of-is heads policy (heads_at-are members heads at3) e3

document_of-is : (text : List ℕ) (policy : Policy) → document_of text ≡ Ok policy → IsRead policy
unfolding document_of
document_of-is text policy e =
    let (members, at, rest) = bind_at (or_fault not_toml (tree_of text)) policy_at policy e in
    policy_at-is members policy rest

pub names_are_distinct : (text : List ℕ) (policy : Policy) → document_of text ≡ Ok policy → AreNames (tenant_names policy.tenants) × AreNames policy.arenas
names_are_distinct text policy e =
    let p = document_of-is text policy e in
    rw p.is (tenants_in-names p.heads.tenants p.tenants p.tenants_read, (arenas_in-holds p.tenants p.groups p.heads.arenas p.arenas p.arenas_read).names)

All-map-range_with_len : {X : Type 0} (P : X → Type 0) (f : ℕ → X) → ((i : ℕ) → P (f i)) → (start len : ℕ) → All P (map f (range_with_len start len))
All-map-range_with_len P f h start len = λ k d within.
    let below : k < len = omega (arith, length-map-range_with_len f start len, within) in
    rw (get_or-map-range_with_len f start len k (start + k) d below refl) (h (start + k))

module _ (own : Rights) (lines : List Line) (n : ℕ) where
  table-owners : length (table_by own lines n) ≡ n
  table-owners = length-map-range_with_len (λ owner. map (λ actor. rights_by own lines owner actor) (range_with_len 0 n)) 0 n

  table-actors : All (λ (row : List Rights). length row ≡ n) (table_by own lines n)
  table-actors =
      All-map-range_with_len (λ row. length row ≡ n) (λ owner. map (λ actor. rights_by own lines owner actor) (range_with_len 0 n))
      (λ owner. length-map-range_with_len (λ actor. rights_by own lines owner actor) 0 n) 0 n

pub tables_are_whole : (text : List ℕ) (policy : Policy) → document_of text ≡ Ok policy → HasWholeTables policy
tables_are_whole text policy e =
    let p = document_of-is text policy e in
    let n = length p.tenants in
    let holds = arenas_in-holds p.tenants p.groups p.heads.arenas p.arenas p.arenas_read in
    rw p.is record {
      arenas = holds.each;
      admitted = holds.by_tenant;
      owners = table-owners all_rights p.grants n;
      granted = table-actors all_rights p.grants n;
      forbidden_owners = table-owners no_rights p.denies n;
      forbidden = table-actors no_rights p.denies n;
    }

-- what is read of heads, where each table is read
pub tables_of-Ok : (heads : Heads) (tenants : List Tenant) (groups : List Group) (arenas : Arenas) (grants denies : List Line)
    → tenants_in heads.tenants ≡ Ok tenants → groups_in tenants heads.groups ≡ Ok groups → arenas_in tenants groups heads.arenas ≡ Ok arenas
    → lines_in tenants groups heads.grants ≡ Ok grants → lines_in tenants groups heads.denies ≡ Ok denies
    → tables_of heads ≡ Ok (policy_from heads tenants arenas grants denies)
unfolding tables_of
tables_of-Ok heads tenants groups arenas grants denies a b c d e = rw (a, b, c, d, e) refl

-- whom and what was named, by the tables that were read
pub names_in-are : (heads : Heads) (names : Names) → names_in heads ≡ Ok names → (tenants_in heads.tenants ≡ Ok names.tenants) × (arenas_in names.tenants names.groups heads.arenas ≡ Ok names.arenas)
unfolding names_in
names_in-are heads names e =
    let (tenants, at1, e1) = bind_at (tenants_in heads.tenants) _ names e in
    let (groups, at2, e2) = bind_at (groups_in tenants heads.groups) _ names e1 in
    let all : Arenas → Names = λ arenas. record { tenants = tenants; groups = groups; arenas = arenas } in
    let (arenas, at3, e3) = bind_at (arenas_in tenants groups heads.arenas) (λ arenas. Ok (all arenas)) names e2 in
    rw (same_Ok (all arenas) names e3) (at1, at3)

-- what was said, by the lines that were read
pub said_in-is : (names : Names) (heads : Heads) (said : Said) → said_in names heads ≡ Ok said
    → (grants : List Line) × (denies : List Line) × (said ≡ record { granted = granted_by grants (length names.tenants); forbidden = forbidden_by denies (length names.tenants) })
unfolding said_in
said_in-is names heads said e =
    let (grants, at1, e1) = bind_at (lines_in names.tenants names.groups heads.grants) _ said e in
    let all : List Line → Said = λ denies. record { granted = granted_by grants (length names.tenants); forbidden = forbidden_by denies (length names.tenants) } in
    let (denies, at2, e2) = bind_at (lines_in names.tenants names.groups heads.denies) (λ denies. Ok (all denies)) said e1 in
    (grants, denies, same_Ok (all denies) said e2)

-- a document's tables are whom and what it names, and what it says of these
pub tables_of-parts : (heads : Heads) → tables_of heads ≡ (names_in heads >>= λ names. said_in names heads >>= λ said. Ok (policy_with heads names said))
unfolding tables_of names_in said_in
tables_of-parts heads =
    let all : List Tenant → List Group → Arenas → Names = λ tenants groups arenas. record { tenants = tenants; groups = groups; arenas = arenas } in
    let of_said : Names → Said → Read Policy = λ names said. Ok (policy_with heads names said) in
    let rest : Names → Read Policy = λ names. said_in names heads >>= of_said names in
    let by_lines : Names → List Line → List Line → Said = λ names grants denies. record { granted = granted_by grants (length names.tenants); forbidden = forbidden_by denies (length names.tenants) } in
    sym (
    bind_assoc (tenants_in heads.tenants) (λ tenants. groups_in tenants heads.groups >>= λ groups. arenas_in tenants groups heads.arenas >>= λ arenas. Ok (all tenants groups arenas)) rest
    ∙ bind_cong (tenants_in heads.tenants) _ _ (λ tenants.
    bind_assoc (groups_in tenants heads.groups) (λ groups. arenas_in tenants groups heads.arenas >>= λ arenas. Ok (all tenants groups arenas)) rest
    ∙ bind_cong (groups_in tenants heads.groups) _ _ (λ groups.
    bind_assoc (arenas_in tenants groups heads.arenas) (λ arenas. Ok (all tenants groups arenas)) rest
    ∙ bind_cong (arenas_in tenants groups heads.arenas) _ _ (λ arenas.
    let names = all tenants groups arenas in
    bind_assoc (lines_in tenants groups heads.grants) (λ grants. lines_in tenants groups heads.denies >>= λ denies. Ok (by_lines names grants denies)) (of_said names)
    ∙ bind_cong (lines_in tenants groups heads.grants) _ _ (λ grants.
    bind_assoc (lines_in tenants groups heads.denies) (λ denies. Ok (by_lines names grants denies)) (of_said names)))))
    )

-- the entries that were kept of tenants are few
pub few_entries : (heads : Heads) (named : Named ℕ) → AreHeads heads → tenants_in heads.tenants ≡ Ok (tenants_of named) → length named ≤ 64
few_entries heads named are read = omega (arith, tenants_in-length heads.tenants (tenants_of named) read, length-tenants named, are.few_tenants)

-- the tables of heads that were read make a sound policy
pub tables-sound : (heads : Heads) (tenants : List Tenant) (groups : List Group) (arenas : Arenas) (grants denies : List Line) → AreHeads heads → tenants_in heads.tenants ≡ Ok tenants → arenas_in tenants groups heads.arenas ≡ Ok arenas → IsSoundPolicy (policy_from heads tenants arenas grants denies)
tables-sound heads tenants groups arenas grants denies are tenants_read arenas_read =
    let few_tenants : length tenants ≤ 64 = omega (arith, tenants_in-length heads.tenants tenants tenants_read, are.few_tenants) in
    let few_arenas : length arenas.names ≤ 16 = omega (arith, arenas_in-length tenants groups heads.arenas arenas arenas_read, are.few_arenas) in
    policy_from-sound heads tenants arenas grants denies are few_tenants (tenants_in-limits heads.tenants tenants tenants_read) few_arenas
    (arenas_in-holds tenants groups heads.arenas arenas arenas_read)

pub documents_are_sound : (text : List ℕ) (policy : Policy) → document_of text ≡ Ok policy → IsSoundPolicy policy
documents_are_sound text policy e =
    let p = document_of-is text policy e in
    rw p.is (tables-sound p.heads p.tenants p.groups p.arenas p.grants p.denies p.are p.tenants_read p.arenas_read)
