-- A policy that a document means is sound.
use Rattle.std.proofs.Common.{◌≡◌, ℕ, ◌<◌, ◌≤◌, ◌^◌, Bool, true, false, List, [], length, map, get_or, refl, sym, ap, ◌∙◌, arith, inl, inr, All}
use Rattle.std.proofs.lemmas.Bool.{cases_lt, true≢false}
use Rattle.std.proofs.lemmas.List.{get_or_past}
use Rattle.std.proofs.lemmas.List.Elements.{All-get_or}
use Rattle.std.proofs.lemmas.List.FromFn.{get_or-map-range_with_len, length-map-range_with_len}
use Rattle.hg_place.specs.declared.Right.{Right}
use Rattle.hg_place.specs.declared.Right.TheVariants as right
use Rattle.hg_machine.specs.Policy.{Tenant, Rights, no_rights, has_right}
use Rattle.hg_machine.specs.SoundPolicy.{IsSoundPolicy}
use Rattle.hg_policy_text.specs.Arenas.{Arenas}
use Rattle.std.specs.List.{range_with_len}
use Rattle.hg_policy.specs.Rights.{all_rights}
use Rattle.hg_policy_text.specs.Lines.{Line, rights_by, table_by, forbidden_by}
use Rattle.hg_policy_text.specs.Heads.{Heads, AreHeads}
use Rattle.hg_policy_text.specs.Document.{policy_from}
use Rattle.hg_policy_text.proofs.ArenaEntries.{IsArenas}
use Rattle.hg_policy.proofs.GrantTable.{has_none}
use Rattle.hg_policy_text.proofs.OwnRows.{own_here}

-- an index at which something else than the default stands
within : {X : Type 0} (xs : List X) (i : ℕ) (d : X) (test : X → Bool) → test d ≡ false → test (get_or xs i d) ≡ true → i < length xs
within xs i d test plain some =
    elim (cases_lt i (length xs)) [
      | inl below ↦ below
      | inr past ↦ absurd (true≢false (sym some ∙ ap test (get_or_past xs i d past) ∙ plain))
    ]

module _ (n : ℕ) (arenas : Arenas) (holds : IsArenas n arenas) where
  admitted-within : (arena actor : ℕ) → get_or (get_or arenas.admitted arena []) actor false ≡ true → (arena < length arenas.names) × (actor < n)
  admitted-within arena actor held =
      let a : arena < length arenas.admitted = within arenas.admitted arena [] (λ by_tenant. get_or by_tenant actor false) refl held in
      let b : actor < length (get_or arenas.admitted arena []) = within (get_or arenas.admitted arena []) actor false (λ b. b) refl held in
      let by_tenant : length (get_or arenas.admitted arena []) ≡ n = All-get_or (λ (by_tenant : List Bool). length by_tenant ≡ n) arenas.admitted arena [] a holds.by_tenant in
      (omega (arith, holds.each, a), omega (arith, b, by_tenant))

module _ (own : Rights) (lines : List Line) (n : ℕ) where
  abbrev row : ℕ → List Rights
  row owner = map (λ actor. rights_by own lines owner actor) (range_with_len 0 n)

  table-row : (owner : ℕ) → owner < n → get_or (table_by own lines n) owner [] ≡ row owner
  table-row owner h = get_or-map-range_with_len row 0 n owner owner [] h (omega arith)

  pub table-within : (owner actor : ℕ) (r : Right) → has_right (get_or (get_or (table_by own lines n) owner []) actor no_rights) r ≡ true → (owner < n) × (actor < n)
  table-within owner actor r held =
      let a : owner < length (table_by own lines n) = within (table_by own lines n) owner [] (λ by_actor. has_right (get_or by_actor actor no_rights) r) (has_none r) held in
      let below : owner < n = omega (arith, a, length-map-range_with_len row 0 n) in
      let b : actor < length (row owner) = within (row owner) actor no_rights (λ rights. has_right rights r) (has_none r) (rw (table-row owner below) at held) in
      (below, omega (arith, b, length-map-range_with_len (λ actor. rights_by own lines owner actor) 0 n))

  pub table-own : (tenant : ℕ) (r : Right) → tenant < n → has_right (get_or (get_or (table_by own lines n) tenant []) tenant no_rights) r ≡ has_right own r
  table-own tenant r h =
      ap (λ by_actor. has_right (get_or by_actor tenant no_rights) r) (table-row tenant h)
      ∙ ap (λ rights. has_right rights r) (get_or-map-range_with_len (λ actor. rights_by own lines tenant actor) 0 n tenant tenant no_rights h (omega arith) ∙ own_here own lines tenant)

has_all : (r : Right) → has_right all_rights r ≡ true
has_all right.Read = refl
has_all right.Write = refl
has_all right.List = refl
has_all right.Free = refl

-- nothing is forbidden to an owner on its own blocks
forbidden-own : (lines : List Line) (n tenant : ℕ) (r : Right) → has_right (get_or (get_or (forbidden_by lines n) tenant []) tenant no_rights) r ≡ false
forbidden-own lines n tenant r = elim (cases_lt tenant n) [
  | inl below ↦ table-own no_rights lines n tenant r below ∙ has_none r
  | inr past ↦
      ap (λ by_actor. has_right (get_or by_actor tenant no_rights) r) (get_or_past (forbidden_by lines n) tenant [] (omega (arith, past, length-map-range_with_len (row no_rights lines n) 0 n)))
      ∙ has_none r
]

-- what is read is sound
pub policy_from-sound : (heads : Heads) (tenants : List Tenant) (arenas : Arenas) (grants denies : List Line) → AreHeads heads → length tenants ≤ 64 → All (λ tenant. tenant.limit < 2 ^ 32) tenants → length arenas.names ≤ 16 → IsArenas (length tenants) arenas → IsSoundPolicy (policy_from heads tenants arenas grants denies)
policy_from-sound heads tenants arenas grants denies are few_tenants limits few_arenas holds = record {
  some_worker = are.some_worker;
  few_workers = are.few_workers;
  some_generation = are.some_generation;
  generations_fit = are.generations_fit;
  few_tenants = few_tenants;
  few_arenas = few_arenas;
  few_segments = holds.few;
  limits_fit = limits;
  in_arenas = holds.in_arenas;
  admitted = admitted-within (length tenants) arenas holds;
  granted = table-within all_rights grants (length tenants);
  own = λ tenant r h. table-own all_rights grants (length tenants) tenant r h ∙ has_all r;
  forbidden = table-within no_rights denies (length tenants);
  own_unforbidden = forbidden-own denies (length tenants);
}
