-- The row at which the first fault of a document stands.
use Rattle.std.proofs.Common.{◌≡◌, ℕ, ◌+◌, ◌<◌, Bool, true, false, List, [], length, take, Option, Some, None, Ok, Err, IsSome, refl, sym, ap, ◌∙◌, inl, inr, arith}
use Rattle.std.specs.Prelude.{is_err}
use Rattle.std.specs.List.{range_with_len, position_or_len}
use Rattle.std.specs.Option.{option_map, option_and_then}
use Rattle.std.proofs.lemmas.Bool.{cases_Bool, cases_lt, lt-ltb, le-ltb}
use Rattle.std.proofs.lemmas.List.FromFn.{length-range_with_len}
use Rattle.toml.specs.Data.{Data, Members}
use Rattle.hg_machine.specs.Policy.{Policy, Tenant}
use Rattle.hg_policy_text.specs.declared.key.Key.{Key}
use Rattle.hg_policy_text.specs.declared.key.Key.TheVariants as key
use Rattle.hg_policy_text.specs.declared.row.Row.{Row}
use Rattle.hg_policy_text.specs.Faults.{Fault, Read, ◌>>=◌, in_turn, or_fault, not_toml, missing, kind, unknown, repeated, no_such_name, too_many, version}
use Rattle.hg_policy_text.specs.Keys.{has_rows}
use Rattle.hg_policy_text.specs.Values.{field_at, elements_in, with_table}
use Rattle.hg_policy_text.specs.Tenants.{tenant_at, tenants_in}
use Rattle.hg_policy_text.specs.Groups.{Group, group_at, groups_in}
use Rattle.hg_policy_text.specs.Arenas.{no_arenas, arena_at, arenas_in}
use Rattle.hg_policy_text.specs.Lines.{Line, with_line, lines_in}
use Rattle.hg_policy_text.specs.Heads.{Heads}
use Rattle.hg_policy_text.specs.Document.{policy_from, tables_of, policy_at, heads_in, tree_of, document_of}
use Rattle.hg_policy_text.specs.FaultyRow.{first_refused, row_in, row_or, row_from, row_of_lines, row_behind_groups, row_behind_tenants, row_of_tables, element_in, row_of_fault, row_of_heads, row_at}
use Rattle.hg_policy_text.proofs.Chains.{bind_at}
use Rattle.hg_policy_text.proofs.HeadsIn.{policy_at-heads}
use Rattle.hg_policy_text.proofs.RowsTold.{first_refused-read, read-first_refused}
use Rattle.hg_policy_laws.specs.RowLaws.{PoliciesHaveNoFaultyRow, FaultyRowsAreRows, FaultyRowsAreTold}

map-there : {A B : Type 0} (f : A → B) (o : Option A) → (o ≡ None → ⊥) → IsSome (option_map f o)
map-there f None some = absurd (some refl)
map-there f (Some x) some = refl

-- of a table that is read no row is told
module _ {A X : Type 0} (table : Key) (step : A → X → Read A) (done : A) (xs : List X) where
  row_in-Ok : (out : A) → in_turn step done xs ≡ Ok out → row_in table (in_turn step done) xs ≡ None
  row_in-Ok out read = rw (first_refused-read step done xs (ap is_err read)) refl

  row_in-Err : (fault : Fault) → in_turn step done xs ≡ Err fault → IsSome (row_in table (in_turn step done) xs)
  row_in-Err fault refused =
      let row : ℕ → Row = λ n. record { table = table; number = n; rows = length xs } in
      map-there row (first_refused (in_turn step done) xs)
      (λ none. let read : is_err (in_turn step done xs) ≡ false = read-first_refused step done xs none in let no : true ≡ false = rw refused at read in cc)

-- a table that is read, and one that is refused
row_from-Ok : {A : Type 0} (table : Key) (read : List Members → Read A) (rows : List Members) (told : A → Option Row) (out : A) → read rows ≡ Ok out → row_from table read rows told ≡ told out
row_from-Ok table read rows told out is = ap (row_or (row_in table read rows) told) is

row_of_tables-Ok : (heads : Heads) (policy : Policy) → tables_of heads ≡ Ok policy → row_of_tables heads ≡ None
unfolding tables_of lines_in
row_of_tables-Ok heads policy e =
    let (tenants, at1, e1) = bind_at (tenants_in heads.tenants) _ policy e in
    let (groups, at2, e2) = bind_at (groups_in tenants heads.groups) _ policy e1 in
    let (arenas, at3, e3) = bind_at (arenas_in tenants groups heads.arenas) _ policy e2 in
    let (grants, at4, e4) = bind_at (lines_in tenants groups heads.grants) _ policy e3 in
    let (denies, at5, e5) = bind_at (lines_in tenants groups heads.denies) (λ denies. Ok (policy_from heads tenants arenas grants denies)) policy e4 in
    row_from-Ok key.Tenant tenants_in heads.tenants (λ tenants. row_behind_tenants tenants heads) tenants at1
    ∙ row_from-Ok key.Group (groups_in tenants) heads.groups (λ groups. row_behind_groups tenants groups heads) groups at2
    ∙ row_from-Ok key.Arena (arenas_in tenants groups) heads.arenas (λ arenas. row_of_lines tenants groups heads) arenas at3
    ∙ row_from-Ok key.Grant (lines_in tenants groups) heads.grants (λ grants. row_in key.Deny (lines_in tenants groups) heads.denies) grants at4
    ∙ row_in-Ok key.Deny (with_line tenants groups) [] heads.denies denies at5

row_at-Ok : (document : Members) (policy : Policy) → policy_at document ≡ Ok policy → row_at document ≡ None
row_at-Ok document policy e =
    let (heads, at, tables) = bind_at (heads_in document) tables_of policy (sym (policy_at-heads document) ∙ e) in
    ap (row_of_heads document) at ∙ row_of_tables-Ok heads policy tables

no_row : (o : Option Members) (policy : Policy) → (or_fault not_toml o >>= policy_at) ≡ Ok policy → option_and_then row_at o ≡ None
no_row None policy e = refl
no_row (Some document) policy e = row_at-Ok document policy e

pub policies_have_no_faulty_row : PoliciesHaveNoFaultyRow
unfolding document_of
policies_have_no_faulty_row text policy e = no_row (tree_of text) policy e

no_policy : (r : Read Policy) → ((policy : Policy) → r ≡ Ok policy → ⊥) → (fault : Fault) × (r ≡ Err fault)
no_policy (Ok policy) none = absurd (none policy refl)
no_policy (Err fault) none = (fault, refl)

-- the row that is told is one of so many
module _ (row : Row) where
  row_in-within : {A X : Type 0} (table : Key) (read : List X → Read A) (xs : List X) → row_in table read xs ≡ Some row → row.number < row.rows
  row_in-within table read xs e =
      let numbers = range_with_len 0 (length xs) in
      let p : ℕ → Bool = λ n. is_err (read (take (n + 1) xs)) in
      let long : length numbers ≡ length xs = length-range_with_len 0 (length xs) in
      elim (cases_lt (position_or_len p numbers) (length numbers)) [
        | inl first ↦
            let told : Row = record { table = table; number = position_or_len p numbers; rows = length xs } in
            let is : Some told ≡ Some row = rw lt-ltb at e in
            let same : told ≡ row = cc in
            rw (← same) (omega (arith, long))
        | inr past ↦ let none : None ≡ Some row = rw le-ltb at e in cc
      ]

  row_or-within : {A : Type 0} (here : Option Row) (told : A → Option Row) (s : Read A) → (here ≡ Some row → row.number < row.rows) → ((x : A) → told x ≡ Some row → row.number < row.rows) → row_or here told s ≡ Some row → row.number < row.rows
  row_or-within here told (Ok x) first later e = later x e
  row_or-within here told (Err fault) first later e = first e

  row_of_tables-within : (heads : Heads) → row_of_tables heads ≡ Some row → row.number < row.rows
  row_of_tables-within heads =
      row_or-within _ _ (tenants_in heads.tenants) (row_in-within key.Tenant tenants_in heads.tenants) (λ tenants.
      row_or-within _ _ (groups_in tenants heads.groups) (row_in-within key.Group (groups_in tenants) heads.groups) (λ groups.
      row_or-within _ _ (arenas_in tenants groups heads.arenas) (row_in-within key.Arena (arenas_in tenants groups) heads.arenas) (λ arenas.
      row_or-within _ _ (lines_in tenants groups heads.grants) (row_in-within key.Grant (lines_in tenants groups) heads.grants) (λ grants.
      row_in-within key.Deny (lines_in tenants groups) heads.denies))))

  element_in-within : (k : Key) (o : Option Data) → element_in k o ≡ Some row → row.number < row.rows
  element_in-within k None e = cc
  element_in-within k (Some d) e = row_or-within None (row_in k (in_turn (with_table k) [])) (elements_in k d) (λ none. cc) (λ ds. row_in-within k (in_turn (with_table k) []) ds) e

  row_of_fault-within : (document : Members) (fault : Fault) → row_of_fault document fault ≡ Some row → row.number < row.rows
  row_of_fault-within document (kind k) e =
      elim (cases_Bool (has_rows k)) [
        | inl table ↦ element_in-within k (field_at k document) (rw table at e)
        | inr other ↦ let none : None ≡ Some row = rw other at e in cc
      ]
  row_of_fault-within document not_toml e = cc
  row_of_fault-within document (missing k) e = cc
  row_of_fault-within document (unknown k) e = cc
  row_of_fault-within document (repeated k) e = cc
  row_of_fault-within document (no_such_name k) e = cc
  row_of_fault-within document (too_many counted) e = cc
  row_of_fault-within document version e = cc

  row_of_heads-within : (document : Members) (read : Read Heads) → row_of_heads document read ≡ Some row → row.number < row.rows
  row_of_heads-within document (Ok heads) e = row_of_tables-within heads e
  row_of_heads-within document (Err fault) e = row_of_fault-within document fault e

  fault_of_row : (o : Option Members) → option_and_then row_at o ≡ Some row → (fault : Fault) × ((or_fault not_toml o >>= policy_at) ≡ Err fault) × (row.number < row.rows)
  fault_of_row None e = cc
  fault_of_row (Some document) e =
      let refused = no_policy (policy_at document) (λ policy is. let none : row_at document ≡ None = row_at-Ok document policy is in let no : Some row ≡ None = sym e ∙ none in cc) in
      (refused.0, refused.1, row_of_heads-within document (heads_in document) e)

pub faulty_rows_are_rows : FaultyRowsAreRows
unfolding document_of
faulty_rows_are_rows text row e = fault_of_row row (tree_of text) e

-- where a table is refused its row is told, and else that of a later one
row_or-Some : {A : Type 0} (here : Option Row) (told : A → Option Row) (s : Read A) → ((fault : Fault) → s ≡ Err fault → IsSome here) → ((x : A) → s ≡ Ok x → IsSome (told x)) → IsSome (row_or here told s)
row_or-Some here told (Ok x) first later = later x refl
row_or-Some here told (Err fault) first later = first fault refl

-- a fault behind what is read is that of the next
then_Err : {A B : Type 0} (r : Read A) (next : A → Read B) (fault : Fault) (x : A) → (r >>= next) ≡ Err fault → r ≡ Ok x → next x ≡ Err fault
then_Err {A = A} r next fault x e is = sym (ap (λ (s : Read A). s >>= next) is) ∙ e

refused_before : {A B : Type 0} (r : Read A) (next : A → B) (fault : Fault) → (r >>= λ x. Ok (next x)) ≡ Err fault → r ≡ Err fault
refused_before (Ok x) next fault e = cc
refused_before (Err f) next fault e = let same : Err f ≡ Err fault = e in let is : f ≡ fault = cc in ap (λ (g : Fault). Err g) is

denies-Some : (tenants : List Tenant) (groups : List Group) (heads : Heads) (fault : Fault) (policy : List Line → Policy) → (lines_in tenants groups heads.denies >>= λ denies. Ok (policy denies)) ≡ Err fault → IsSome (row_in key.Deny (lines_in tenants groups) heads.denies)
unfolding lines_in
denies-Some tenants groups heads fault policy e =
    let refused = refused_before (lines_in tenants groups heads.denies) policy fault e in
    row_in-Err key.Deny (with_line tenants groups) [] heads.denies fault refused

row_of_tables-Some : (heads : Heads) (fault : Fault) → tables_of heads ≡ Err fault → IsSome (row_of_tables heads)
unfolding tables_of tenants_in groups_in arenas_in lines_in
row_of_tables-Some heads fault e0 =
    row_or-Some _ _ (tenants_in heads.tenants) (row_in-Err key.Tenant tenant_at [] heads.tenants) (λ tenants at1.
    let e1 = then_Err (tenants_in heads.tenants) _ fault tenants e0 at1 in
    row_or-Some _ _ (groups_in tenants heads.groups) (row_in-Err key.Group (group_at tenants) [] heads.groups) (λ groups at2.
    let e2 = then_Err (groups_in tenants heads.groups) _ fault groups e1 at2 in
    row_or-Some _ _ (arenas_in tenants groups heads.arenas) (row_in-Err key.Arena (arena_at tenants groups) no_arenas heads.arenas) (λ arenas at3.
    let e3 = then_Err (arenas_in tenants groups heads.arenas) _ fault arenas e2 at3 in
    row_or-Some _ _ (lines_in tenants groups heads.grants) (row_in-Err key.Grant (with_line tenants groups) [] heads.grants) (λ grants at4.
    let e4 = then_Err (lines_in tenants groups heads.grants) _ fault grants e3 at4 in
    denies-Some tenants groups heads fault (λ denies. policy_from heads tenants arenas grants denies) e4))))

pub faulty_rows_are_told : FaultyRowsAreTold
unfolding document_of
faulty_rows_are_told text document heads fault tree read e =
    let e1 = then_Err (or_fault not_toml (tree_of text)) policy_at fault document e (ap (or_fault not_toml) tree) in
    let e2 = then_Err (heads_in document) tables_of fault heads (sym (policy_at-heads document) ∙ e1) read in
    let some : IsSome (row_of_tables heads) = row_of_tables-Some heads fault e2 in
    rw (tree, read) some
