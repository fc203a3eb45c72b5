-- Up to its faulty row a document is read, and with it not.
use Rattle.std.proofs.Common.{◌≡◌, ◌⊎◌, ℕ, zero, suc, ◌+◌, ◌<◌, true, false, List, [], length, take, Option, Some, None, Ok, Err, refl, sym, ap, inl, inr, arith, add-one}
use Rattle.std.specs.Prelude.{is_err, is_ok, IsOk, IsErr}
use Rattle.std.specs.Option.{option_map}
use Rattle.hg_machine.specs.Policy.{Tenant}
use Rattle.hg_policy_text.specs.declared.key.Key.{Key}
use Rattle.hg_policy_text.specs.declared.key.Key.TheVariants as key
use Rattle.hg_policy_text.specs.declared.row.Row.{Row}
use Rattle.hg_policy_text.specs.Faults.{Fault, Read, in_turn}
use Rattle.hg_policy_text.specs.Tenants.{tenant_at, tenants_in}
use Rattle.hg_policy_text.specs.Groups.{Group, group_at, groups_in}
use Rattle.hg_policy_text.specs.Arenas.{Arenas, no_arenas, arena_at, arenas_in}
use Rattle.hg_policy_text.specs.Lines.{Line, with_line, lines_in}
use Rattle.hg_policy_text.specs.Heads.{Heads}
use Rattle.hg_policy_text.specs.Document.{tables_of}
use Rattle.hg_policy_text.specs.FaultyRow.{first_refused, row_in, row_or, row_of_lines, row_behind_groups, row_behind_tenants}
use Rattle.hg_policy_text.proofs.FirstRefused.{position-at}
use Rattle.hg_policy_text.proofs.Parts.{tables_of-Ok}
use Rattle.hg_policy_laws.specs.RowLaws.{cut_to, ReadingStopsAtFaultyRows}

-- a row of a table: where it is, what is read before it and what with it
record IsStop {A X : Type 0} (read : List X → Read A) (xs : List X) (table : Key) (row : Row) : Type 0 where
  in_table : row.table ≡ table
  before : is_err (read (take row.number xs)) ≡ false
  with_it : is_err (read (take (row.number + 1) xs)) ≡ true

module _ {A X : Type 0} (step : A → X → Read A) (done : A) (xs : List X) (table : Key) (row : Row) where
  read-before : (n : ℕ) → ((k : ℕ) → k < n → is_err (in_turn step done (take (k + 1) xs)) ≡ false) → is_err (in_turn step done (take n xs)) ≡ false
  unfolding in_turn
  read-before zero before = refl
  read-before (suc n) before = rw add-one at (before n (omega arith))

  stop-at : (o : Option ℕ) → o ≡ first_refused (in_turn step done) xs → option_map (λ n. record { table = table; number = n; rows = length xs }) o ≡ Some row → IsStop (in_turn step done) xs table row
  stop-at None is e = absurd (cc)
  stop-at (Some n) is e =
      let told : Row = record { table = table; number = n; rows = length xs } in
      let same : told ≡ row = cc in
      let at = position-at (λ k. is_err (in_turn step done (take (k + 1) xs))) (length xs) n (sym is) in
      rw (← same) record {
        in_table = refl;
        before = read-before n at.2;
        with_it = at.1;
      }

  row_in-stop : row_in table (in_turn step done) xs ≡ Some row → IsStop (in_turn step done) xs table row
  row_in-stop e = stop-at (first_refused (in_turn step done) xs) refl e

-- the first of a chain of tables that is refused
row_or-cases : {A : Type 0} (here : Option Row) (told : A → Option Row) (s : Read A) (row : Row) → row_or here told s ≡ Some row → (here ≡ Some row) ⊎ ((x : A) × (s ≡ Ok x) × (told x ≡ Some row))
row_or-cases here told (Ok x) row e = inr (x, refl, e)
row_or-cases here told (Err f) row e = inl e

is_read : {A : Type 0} (s : Read A) → is_err s ≡ false → (x : A) × (s ≡ Ok x)
is_read (Ok x) e = (x, refl)
is_read (Err f) e = absurd (cc)

is_refused : {A : Type 0} (s : Read A) → is_err s ≡ true → (f : Fault) × (s ≡ Err f)
is_refused (Ok x) e = absurd (cc)
is_refused (Err f) e = (f, refl)

-- what tables give, one after the other
abbrev Stops : Heads → Row → Type 0
Stops heads row = IsOk (tables_of (cut_to row.table row.number heads)) × IsErr (tables_of (cut_to row.table (row.number + 1) heads))

no_groups : (tenants : List Tenant) → groups_in tenants [] ≡ Ok []
unfolding groups_in in_turn
no_groups tenants = refl

none_of_arenas : (tenants : List Tenant) (groups : List Group) → arenas_in tenants groups [] ≡ Ok no_arenas
unfolding arenas_in in_turn
none_of_arenas tenants groups = refl

no_lines : (tenants : List Tenant) (groups : List Group) → lines_in tenants groups [] ≡ Ok []
unfolding lines_in in_turn
no_lines tenants groups = refl

module _ (heads : Heads) where
  refused_tenants : is_err (tenants_in heads.tenants) ≡ true → IsErr (tables_of heads)
  unfolding tables_of
  refused_tenants e = rw (is_refused (tenants_in heads.tenants) e).1 refl

  module _ (tenants : List Tenant) (tenants_read : tenants_in heads.tenants ≡ Ok tenants) where
    refused_groups : is_err (groups_in tenants heads.groups) ≡ true → IsErr (tables_of heads)
    unfolding tables_of
    refused_groups e = rw (tenants_read, (is_refused (groups_in tenants heads.groups) e).1) refl

    module _ (groups : List Group) (groups_read : groups_in tenants heads.groups ≡ Ok groups) where
      refused_arenas : is_err (arenas_in tenants groups heads.arenas) ≡ true → IsErr (tables_of heads)
      unfolding tables_of
      refused_arenas e = rw (tenants_read, groups_read, (is_refused (arenas_in tenants groups heads.arenas) e).1) refl

      module _ (arenas : Arenas) (arenas_read : arenas_in tenants groups heads.arenas ≡ Ok arenas) where
        refused_grants : is_err (lines_in tenants groups heads.grants) ≡ true → IsErr (tables_of heads)
        unfolding tables_of
        refused_grants e = rw (tenants_read, groups_read, arenas_read, (is_refused (lines_in tenants groups heads.grants) e).1) refl

        refused_denies : (grants : List Line) → lines_in tenants groups heads.grants ≡ Ok grants → is_err (lines_in tenants groups heads.denies) ≡ true → IsErr (tables_of heads)
        unfolding tables_of
        refused_denies grants grants_read e = rw (tenants_read, groups_read, arenas_read, grants_read, (is_refused (lines_in tenants groups heads.denies) e).1) refl

module _ (heads : Heads) (row : Row) where
  tenant-stop : IsStop tenants_in heads.tenants key.Tenant row → Stops heads row
  tenant-stop stop =
      let (tenants, read) = is_read (tenants_in (take row.number heads.tenants)) stop.before in
      let cut = cut_to key.Tenant row.number heads in
      let ok : IsOk (tables_of cut) = ap is_ok (tables_of-Ok cut tenants [] no_arenas [] [] read (no_groups tenants) (none_of_arenas tenants []) (no_lines tenants []) (no_lines tenants [])) in
      let err : IsErr (tables_of (cut_to key.Tenant (row.number + 1) heads)) = refused_tenants (cut_to key.Tenant (row.number + 1) heads) stop.with_it in
      rw stop.in_table (ok, err)

  module _ (tenants : List Tenant) (tenants_read : tenants_in heads.tenants ≡ Ok tenants) where
    group-stop : IsStop (groups_in tenants) heads.groups key.Group row → Stops heads row
    group-stop stop =
        let (groups, read) = is_read (groups_in tenants (take row.number heads.groups)) stop.before in
        let cut = cut_to key.Group row.number heads in
        let ok : IsOk (tables_of cut) = ap is_ok (tables_of-Ok cut tenants groups no_arenas [] [] tenants_read read (none_of_arenas tenants groups) (no_lines tenants groups) (no_lines tenants groups)) in
        let err : IsErr (tables_of (cut_to key.Group (row.number + 1) heads)) = refused_groups (cut_to key.Group (row.number + 1) heads) tenants tenants_read stop.with_it in
        rw stop.in_table (ok, err)

    module _ (groups : List Group) (groups_read : groups_in tenants heads.groups ≡ Ok groups) where
      arena-stop : IsStop (arenas_in tenants groups) heads.arenas key.Arena row → Stops heads row
      arena-stop stop =
          let (arenas, read) = is_read (arenas_in tenants groups (take row.number heads.arenas)) stop.before in
          let cut = cut_to key.Arena row.number heads in
          let ok : IsOk (tables_of cut) = ap is_ok (tables_of-Ok cut tenants groups arenas [] [] tenants_read groups_read read (no_lines tenants groups) (no_lines tenants groups)) in
          let err : IsErr (tables_of (cut_to key.Arena (row.number + 1) heads)) = refused_arenas (cut_to key.Arena (row.number + 1) heads) tenants tenants_read groups groups_read stop.with_it in
          rw stop.in_table (ok, err)

      module _ (arenas : Arenas) (arenas_read : arenas_in tenants groups heads.arenas ≡ Ok arenas) where
        grant-stop : IsStop (lines_in tenants groups) heads.grants key.Grant row → Stops heads row
        grant-stop stop =
            let (grants, read) = is_read (lines_in tenants groups (take row.number heads.grants)) stop.before in
            let cut = cut_to key.Grant row.number heads in
            let ok : IsOk (tables_of cut) = ap is_ok (tables_of-Ok cut tenants groups arenas grants [] tenants_read groups_read arenas_read read (no_lines tenants groups)) in
            let err : IsErr (tables_of (cut_to key.Grant (row.number + 1) heads)) = refused_grants (cut_to key.Grant (row.number + 1) heads) tenants tenants_read groups groups_read arenas arenas_read stop.with_it in
            rw stop.in_table (ok, err)

        deny-stop : (grants : List Line) → lines_in tenants groups heads.grants ≡ Ok grants → IsStop (lines_in tenants groups) heads.denies key.Deny row → Stops heads row
        deny-stop grants grants_read stop =
            let (denies, read) = is_read (lines_in tenants groups (take row.number heads.denies)) stop.before in
            let cut = cut_to key.Deny row.number heads in
            let ok : IsOk (tables_of cut) = ap is_ok (tables_of-Ok cut tenants groups arenas grants denies tenants_read groups_read arenas_read grants_read read) in
            let err : IsErr (tables_of (cut_to key.Deny (row.number + 1) heads)) = refused_denies (cut_to key.Deny (row.number + 1) heads) tenants tenants_read groups groups_read arenas arenas_read grants grants_read stop.with_it in
            rw stop.in_table (ok, err)

        lines-stop : row_of_lines tenants groups heads ≡ Some row → Stops heads row
        unfolding lines_in
        lines-stop e =
            elim (row_or-cases (row_in key.Grant (lines_in tenants groups) heads.grants) (λ grants. row_in key.Deny (lines_in tenants groups) heads.denies) (lines_in tenants groups heads.grants) row e) [
              | inl here ↦ grant-stop (row_in-stop (with_line tenants groups) [] heads.grants key.Grant row here)
              | inr later ↦ deny-stop later.0 later.1 (row_in-stop (with_line tenants groups) [] heads.denies key.Deny row later.2)
            ]

      arenas-stop : row_behind_groups tenants groups heads ≡ Some row → Stops heads row
      unfolding arenas_in
      arenas-stop e =
          elim (row_or-cases (row_in key.Arena (arenas_in tenants groups) heads.arenas) (λ arenas. row_of_lines tenants groups heads) (arenas_in tenants groups heads.arenas) row e) [
            | inl here ↦ arena-stop (row_in-stop (arena_at tenants groups) no_arenas heads.arenas key.Arena row here)
            | inr later ↦ lines-stop later.0 later.1 later.2
          ]

    groups-stop : row_behind_tenants tenants heads ≡ Some row → Stops heads row
    unfolding groups_in
    groups-stop e =
        elim (row_or-cases (row_in key.Group (groups_in tenants) heads.groups) (λ groups. row_behind_groups tenants groups heads) (groups_in tenants heads.groups) row e) [
          | inl here ↦ group-stop (row_in-stop (group_at tenants) [] heads.groups key.Group row here)
          | inr later ↦ arenas-stop later.0 later.1 later.2
        ]

pub reading_stops_at_faulty_rows : ReadingStopsAtFaultyRows
unfolding tenants_in
reading_stops_at_faulty_rows heads row e =
    elim (row_or-cases (row_in key.Tenant tenants_in heads.tenants) (λ tenants. row_behind_tenants tenants heads) (tenants_in heads.tenants) row e) [
      | inl here ↦ tenant-stop heads row (row_in-stop tenant_at [] heads.tenants key.Tenant row here)
      | inr later ↦ groups-stop heads row later.0 later.1 later.2
    ]
