-- The table of what lines name.
use Rattle.std.proofs.Common.{◌≡◌, ◌≢◌, ℕ, ◌+◌, ◌<◌, ◌≤◌, Bool, false, ◌||◌, ◌&&◌, nat_lt, List, [], ◌∷◌, ◌++◌, length, map, take, get_or, set, refl, sym, ap, ◌∙◌, inl, inr, arith}
use Rattle.std.specs.List.{list_any, range_with_len}
use Rattle.hg_place.specs.declared.Right.{Right}
use Rattle.hg_place.specs.declared.Right.TheVariants as right
use Rattle.hg_machine.specs.Policy.{has_right}
use Rattle.hg_policy.specs.declared.rights.Rights.{Rights}
use Rattle.hg_policy.specs.declared.granted.Standing.{Standing}
use Rattle.hg_policy.specs.declared.tenant_set.TenantSet.{TenantSet}
use Rattle.hg_policy.specs.Rights.{rights_of, nothing}
use Rattle.hg_policy.specs.TenantSets.{has_tenant}
use Rattle.hg_policy_text.specs.declared.lines.Line.{Line}
use Rattle.hg_policy.specs.Kept.{rows_of}
use Rattle.hg_policy_text.specs.ReadTables.{line_of}
use Rattle.hg_policy_text.specs.Lines as lines
use Rattle.hg_policy_text.specs.Lines.{names_right, rights_by}
use Rattle.hg_machine.specs.Policy as meaning
use Rattle.std.proofs.lemmas.Bool.{cases_eq}
use Rattle.std.proofs.lemmas.List.{get_or-set_same, get_or-set_other, get_or-map, get_or-take, length-set, length-map, length-take, map_push}
use Rattle.std.proofs.lemmas.List.Folds.{list_any_more}
use Rattle.std.proofs.lemmas.List.FromFn.{fill_by_all, get_or-map-range_with_len, map-range_with_len_more}
use Rattle.hg_policy.proofs.Names.{list_any-map}
use Rattle.hg_policy.proofs.GrantTable.{ne-eqb}
use Rattle.hg_policy_text.proofs.OwnRows.{same_rights, own_here}

-- after so many actors the rights of each of them in the set are more
abbrev pub AddedTo : ℕ → List Rights → List Rights → TenantSet → Rights → Type 0
AddedTo i old now to rights =
    (actor : ℕ) (r : Right) → actor < 64
    → has_right (rights_of (get_or now actor nothing)) r
    ≡ (has_right (rights_of (get_or old actor nothing)) r || (nat_lt actor i && (has_tenant to actor && has_right (rights_of rights) r)))

-- a line, by the sets that it is kept as
line_here : (tenants owner actor : ℕ) (line : Line) (r : Right) → owner < tenants → actor < tenants
    → names_right owner actor r (line_of tenants line) ≡ (has_tenant line.owners owner && (has_tenant line.to actor && has_right (rights_of line.rights) r))
line_here tenants owner actor line r o a =
    rw (get_or-map-range_with_len (has_tenant line.owners) 0 tenants owner owner false o (omega arith), get_or-map-range_with_len (has_tenant line.to) 0 tenants actor actor false a (omega arith)) refl

-- one line more
pub row_more : (tenants owner actor : ℕ) (r : Right) (lines : List Line) (i : ℕ) (d : Line) (old new : Bool) → i < length lines → owner < tenants → actor < tenants
    → old ≡ list_any (names_right owner actor r) (map (line_of tenants) (take i lines))
    → new ≡ (old || (has_tenant (get_or lines i d).owners owner && (has_tenant (get_or lines i d).to actor && has_right (rights_of (get_or lines i d).rights) r)))
    → new ≡ list_any (names_right owner actor r) (map (line_of tenants) (take (i + 1) lines))
row_more tenants owner actor r lines i d old new within o a before now =
    let p : Line → Bool = λ line. names_right owner actor r (line_of tenants line) in
    now
    ∙ ap (λ b. b || (has_tenant (get_or lines i d).owners owner && (has_tenant (get_or lines i d).to actor && has_right (rights_of (get_or lines i d).rights) r))) (before ∙ list_any-map (names_right owner actor r) (line_of tenants) (take i lines))
    ∙ ap (λ b. list_any p (take i lines) || b) (sym (line_here tenants owner actor (get_or lines i d) r o a))
    ∙ sym (list_any_more p lines i d within)
    ∙ sym (list_any-map (names_right owner actor r) (line_of tenants) (take (i + 1) lines))

pub other_here : (own : meaning.Rights) (named_by : List lines.Line) (owner actor : ℕ) (r : Right) → actor ≢ owner → has_right (rights_by own named_by owner actor) r ≡ list_any (names_right owner actor r) named_by
other_here own named_by owner actor right.Read other = rw (ne-eqb actor owner other) refl
other_here own named_by owner actor right.Write other = rw (ne-eqb actor owner other) refl
other_here own named_by owner actor right.List other = rw (ne-eqb actor owner other) refl
other_here own named_by owner actor right.Free other = rw (ne-eqb actor owner other) refl

-- the row of an owner, once its own rights are written
pub row_is : (tenants owner : ℕ) (own : Rights) (held : List Rights) (named_by : List lines.Line) → tenants ≤ 64 → owner < tenants → length held ≡ 64
    → ((actor : ℕ) (r : Right) → actor < tenants → has_right (rights_of (get_or held actor nothing)) r ≡ list_any (names_right owner actor r) named_by)
    → map rights_of (take tenants (set held owner own)) ≡ map (λ actor. rights_by (rights_of own) named_by owner actor) (range_with_len 0 tenants)
row_is tenants owner own held named_by few o long named =
    let row = set held owner own in
    let whole : length row ≡ 64 = length-set held owner own ∙ long in
    let cut : length (take tenants row) ≡ tenants = omega (arith, length-take tenants row, whole) in
    fill_by_all (λ actor. rights_by (rights_of own) named_by owner actor) (map rights_of (take tenants row)) tenants meaning.no_rights (length-map (take tenants row) rights_of ∙ cut)
    (λ actor h.
    get_or-map rights_of (take tenants row) actor nothing meaning.no_rights (omega (arith, cut, h))
    ∙ ap rights_of (get_or-take tenants row actor nothing h)
    ∙ elim (cases_eq actor owner) as (λ _. rights_of (get_or row actor nothing) ≡ rights_by (rights_of own) named_by owner actor) [
      | inl same ↦ rw (same, get_or-set_same held owner own nothing (omega (arith, o, long))) (sym (own_here (rights_of own) named_by owner))
      | inr other ↦ rw (get_or-set_other held owner actor own nothing other) (same_rights _ _ (λ r. named actor r h ∙ sym (other_here (rights_of own) named_by owner actor r other)))
    ])

-- the rows of so many owners, of so many actors each
abbrev pub row_by : meaning.Rights → List lines.Line → ℕ → ℕ → List meaning.Rights
row_by own named_by tenants owner = map (λ actor. rights_by own named_by owner actor) (range_with_len 0 tenants)

abbrev pub rows_by : meaning.Rights → List lines.Line → ℕ → ℕ → List (List meaning.Rights)
rows_by own named_by tenants owners = map (row_by own named_by tenants) (range_with_len 0 owners)

-- one owner more
pub rows_more : (tenants owner : ℕ) (half : Standing → Rights) (own : meaning.Rights) (named_by : List lines.Line) (table : List (List Standing)) (held : List Standing)
    → rows_of tenants (map (map half) table) ≡ rows_by own named_by tenants owner
    → map rights_of (take tenants (map half held)) ≡ row_by own named_by tenants owner
    → rows_of tenants (map (map half) (table ++ held ∷ [])) ≡ rows_by own named_by tenants (owner + 1)
rows_more tenants owner half own named_by table held done row =
    let cut : List Rights → List meaning.Rights = λ row. map rights_of (take tenants row) in
    ap (rows_of tenants) (map_push (map half) table held)
    ∙ map_push cut (map (map half) table) (map half held)
    ∙ ap (λ rows. rows ++ cut (map half held) ∷ []) done
    ∙ ap (λ row. rows_by own named_by tenants owner ++ row ∷ []) row
    ∙ sym (map-range_with_len_more (row_by own named_by tenants) 0 owner owner (omega arith))
