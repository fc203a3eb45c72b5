-- Rows that are refused by themselves: lines, and elements that are no tables.
use Rattle.std.proofs.Common.{◌≡◌, ℕ, ◌+◌, ◌<◌, List, [], ◌∷◌, ◌++◌, length, map, take, get_or, Option, Some, None, Ok, Err, true, sym, ap, ◌∙◌, refl, arith}
use Rattle.std.specs.Prelude.{position, is_err, is_none}
use Rattle.std.specs.Option.{option_map}
use Rattle.std.proofs.lemmas.List.{length-map, take-map, get_or-map}
use Rattle.toml.specs.View.{items_view, view}
use Rattle.toml.specs.declared.value.Value.{Value}
use Rattle.toml.specs.Data.{Data, Members, as_array, as_table, string, integer, float, boolean, datetime, array, table}
use Rattle.hg_machine.specs.Policy.{Tenant}
use Rattle.hg_policy_text.specs.declared.key.Key.{Key}
use Rattle.hg_policy_text.specs.declared.row.Row.{Row}
use Rattle.hg_policy_text.specs.Faults.{in_turn, kind}
use Rattle.hg_policy_text.specs.Values.{with_table, elements_in}
use Rattle.hg_policy_text.specs.Groups.{Group}
use Rattle.hg_policy_text.specs.Lines.{Line, line_in, with_line, lines_in}
use Rattle.hg_policy_text.specs.FaultyRow.{first_refused, row_in, row_from, element_in}
use Rattle.hg_policy_text.proofs.InTurn.{elements-view}
use Rattle.hg_policy.proofs.Names.{position-map}
use Rattle.hg_policy_text.proofs.Tables.{elements_in-Some}
use Rattle.hg_policy_text.proofs.RowsTold.{row_or-refused, row_or-read, row_in-read, row_in-refused}
use Rattle.hg_policy_text.proofs.FirstRefused.{AreRead, is_err-bind, is_err-more, first_refused-alone}

is_err-with_line : (tenants : List Tenant) (groups : List Group) (done : List Line) (entry : Members) → is_err (with_line tenants groups done entry) ≡ is_err (line_in tenants groups entry)
is_err-with_line tenants groups done entry = is_err-bind (line_in tenants groups entry) (λ line. done ++ line ∷ [])

-- the lines up to one more are refused just where it is
pub is_err-lines_more : {X : Type 0} (tenants : List Tenant) (groups : List Group) (f : X → Members) (xs : List X) (i : ℕ) (d : X) → AreRead (lines_in tenants groups) (map f xs) i → i < length xs → is_err (lines_in tenants groups (map f (take (i + 1) xs))) ≡ is_err (line_in tenants groups (f (get_or xs i d)))
unfolding lines_in
is_err-lines_more tenants groups f xs i d before within =
    ap (λ rows. is_err (lines_in tenants groups rows)) (sym (take-map f (i + 1) xs))
    ∙ is_err-more (with_line tenants groups) (λ entry. is_err (line_in tenants groups entry)) (is_err-with_line tenants groups) [] (map f xs) i (f d) before (omega (arith, length-map xs f))
    ∙ ap (λ entry. is_err (line_in tenants groups entry)) (get_or-map f xs i d (f d) within)

-- the row of lines, and what is told behind lines that are read
pub row_from-refused_lines : (tenants : List Tenant) (groups : List Group) (k : Key) (rows : List Members) (after : Option Row) (row : Row) → row_in k (lines_in tenants groups) rows ≡ Some row → row_from k (lines_in tenants groups) rows (λ _. after) ≡ Some row
unfolding lines_in
row_from-refused_lines tenants groups k rows after row there = row_or-refused (row_in k (lines_in tenants groups) rows) (λ _. after) (lines_in tenants groups rows) (row_in-refused (with_line tenants groups) [] rows k row there) ∙ there

pub row_from-read_lines : (tenants : List Tenant) (groups : List Group) (k : Key) (rows : List Members) (after : Option Row) → row_in k (lines_in tenants groups) rows ≡ None → row_from k (lines_in tenants groups) rows (λ _. after) ≡ after
unfolding lines_in
row_from-read_lines tenants groups k rows after none = row_or-read (row_in k (lines_in tenants groups) rows) after (lines_in tenants groups rows) (row_in-read (with_line tenants groups) [] rows k none)

is_err-with_table : (k : Key) (done : List Members) (d : Data) → is_err (with_table k done d) ≡ is_none (as_table d)
is_err-with_table k done (string s) = refl
is_err-with_table k done (integer z) = refl
is_err-with_table k done (float x) = refl
is_err-with_table k done (boolean b) = refl
is_err-with_table k done (datetime t) = refl
is_err-with_table k done (array a) = refl
is_err-with_table k done (table ms) = refl

-- of elements the first that is no table is the first up to which they are refused
pub first_refused-tables : (k : Key) (ds : List Data) → first_refused (in_turn (with_table k) []) ds ≡ position (λ d. is_none (as_table d)) ds
first_refused-tables k ds = first_refused-alone (with_table k) (λ d. is_none (as_table d)) (is_err-with_table k) [] ds (boolean true)

elements_in-None : (k : Key) (d : Data) → None ≡ as_array d → elements_in k d ≡ Err (kind k)
elements_in-None k (string s) e = refl
elements_in-None k (integer z) e = refl
elements_in-None k (float x) e = refl
elements_in-None k (boolean b) e = refl
elements_in-None k (datetime t) e = refl
elements_in-None k (array a) e = cc
elements_in-None k (table ms) e = refl

pub element_in-no_array : (k : Key) (d : Data) → None ≡ as_array d → element_in k (Some d) ≡ None
element_in-no_array k d e = rw (elements_in-None k d e) refl

-- of an array the first value that is no table
pub element_in-array : (k : Key) (d : Data) (vs : List Value) → Some (items_view vs) ≡ as_array d → element_in k (Some d) ≡ option_map (λ n. record { table = k; number = n; rows = length vs }) (position (λ v. is_none (as_table (view v))) vs)
element_in-array k d vs e =
    let read : elements_in k d ≡ Ok (map view vs) = elements_in-Some k d (items_view vs) e ∙ ap (λ (ds : List Data). Ok ds) (elements-view vs) in
    rw (read, first_refused-tables k (map view vs), position-map (λ d. is_none (as_table d)) view vs, length-map vs view) refl
