-- What version 1 accepts means the same in version 2.
use Rattle.std.proofs.Common.{◌≡◌, ◌≢◌, ℕ, ◌||◌, codes, Bool, true, false, List, [], ◌∷◌, Option, Some, None, Ok, Err, ℤ, pos, negsuc, if◌then◌else◌, inl, inr, refl, sym, ap, ◌∙◌}
use Rattle.std.specs.Str.{bytes_eq}
use Rattle.std.proofs.lemmas.Bool.{cases_Bool}
use Rattle.toml.specs.Data.{Data, Members, no_members, member, string, integer}
use Rattle.hg_policy_text.specs.declared.key.Key.{Key}
use Rattle.hg_policy_text.specs.declared.key.Key.TheVariants as key
use Rattle.hg_policy_text.specs.declared.key.Counted.{Counted}
use Rattle.hg_policy_text.specs.declared.key.Level.{Level}
use Rattle.hg_policy_text.specs.declared.key.Level.TheVariants as level
use Rattle.hg_policy_text.specs.Faults.{Fault, ◌>>=◌, or_fault, missing, kind, version}
use Rattle.hg_policy_text.specs.Values.{field_at, value_at, whole_in, whole_at, knows, first_unknown, none_unknown, known_keys, entries_in, entries_at, at_most, or_else}
use Rattle.hg_policy_text.specs.Heads.{workers_in, workers_at, max_generation_at, group_entries_at, line_entries_at, heads_at}
use Rattle.hg_policy_text.specs.Document.{top_in, top_at, tables_of, policy_at}
use Rattle.hg_policy_text.specs.VersionLaws.{keys_in, IsSameButVersion, VersionsAgree, VersionTwoIsVersionOne, VersionsAreTwo}
use Rattle.hg_policy_text.proofs.Chains.{bind_at}
use Rattle.hg_policy.proofs.GrantTable.{ne-eqb}

-- the first of these keys that isn't known
abbrev unknown_among : Level → List (List ℕ) → Option (List ℕ)
unknown_among l [] = None
unknown_among l (k ∷ ks) = if knows l k then unknown_among l ks else Some k

unknown_is : (l : Level) (members : Members) → first_unknown l members ≡ unknown_among l (keys_in members)
unfolding first_unknown
unknown_is l no_members = refl
unknown_is l (member k d rest) = rw (unknown_is l rest)

-- one of six is one of eight
more : (a b c d e f g h : Bool) → (a || (b || (c || (d || (e || f))))) ≡ true → (a || (b || (c || (d || (e || (f || (g || h))))))) ≡ true
more true b c d e f g h is = refl
more false true c d e f g h is = refl
more false false true d e f g h is = refl
more false false false true e f g h is = refl
more false false false false true f g h is = refl
more false false false false false true g h is = refl
more false false false false false false g h is = absurd (cc)

knows_more : (k : List ℕ) → knows level.Top k ≡ true → knows level.SecondTop k ≡ true
knows_more k e =
    more (bytes_eq k (codes "version")) (bytes_eq k (codes "workers")) (bytes_eq k (codes "max_generation")) (bytes_eq k (codes "tenant"))
    (bytes_eq k (codes "arena")) (bytes_eq k (codes "grant")) (bytes_eq k (codes "group")) (bytes_eq k (codes "deny")) e

known_more : (ks : List (List ℕ)) → unknown_among level.Top ks ≡ None → unknown_among level.SecondTop ks ≡ None
known_more [] e = refl
known_more (k ∷ ks) e = elim (cases_Bool (knows level.Top k)) [
  | inl known ↦ rw (knows_more k known) (known_more ks (rw known at e))
  | inr strange ↦ let f : Some k ≡ None = rw strange at e in absurd (cc)
]

pub none-Ok : (o : Option (List ℕ)) (known : Bool) → none_unknown o ≡ Ok known → o ≡ None
none-Ok None known e = refl
none-Ok (Some k) known e = absurd (cc)

module _ (one two : Members) (same : IsSameButVersion one two) where
  value_same : (k : Key) → k ≢ key.Version → value_at k two ≡ value_at k one
  unfolding value_at
  value_same k other = ap (or_fault (missing k)) (same.fields k other)

  workers_same : workers_at two ≡ workers_at one
  unfolding workers_at whole_at
  workers_same = ap (λ v. v >>= whole_in key.Workers 1 9223372036854775807 >>= workers_in) (value_same key.Workers (λ e. cc))

  greatest_same : max_generation_at two ≡ max_generation_at one
  unfolding max_generation_at
  greatest_same = ap (or_else 4294967295 (whole_in key.MaxGeneration 1 4294967295)) (same.fields key.MaxGeneration (λ e. cc))

  entries_same : (k : Key) (c : Counted) (most : ℕ) → k ≢ key.Version → entries_at k c most two ≡ entries_at k c most one
  unfolding entries_at
  entries_same k c most other = ap (λ v. v >>= entries_in k >>= at_most most c) (value_same k other)

  lines_same : (k : Key) → k ≢ key.Version → line_entries_at k two ≡ line_entries_at k one
  unfolding line_entries_at
  lines_same k other = ap (or_else [] (entries_in k)) (same.fields k other)

  groups_same : group_entries_at two ≡ group_entries_at one
  unfolding group_entries_at
  groups_same = rw (same.fields key.Group (λ e. cc)) refl

  heads_same : heads_at two ≡ heads_at one
  unfolding heads_at
  heads_same =
      rw (workers_same, greatest_same, entries_same key.Tenant _ _ (λ e. cc), entries_same key.Arena _ _ (λ e. cc), groups_same, lines_same key.Grant (λ e. cc), lines_same key.Deny (λ e. cc)) refl

  known_same : (known : Bool) → known_keys level.Top one ≡ Ok known → known_keys level.SecondTop two ≡ Ok true
  unfolding known_keys
  known_same known e =
      let none = none-Ok (first_unknown level.Top one) known e in
      let keys : unknown_among level.SecondTop (keys_in one) ≡ None = known_more (keys_in one) (sym (unknown_is level.Top one) ∙ none) in
      ap none_unknown (unknown_is level.SecondTop two ∙ ap (unknown_among level.SecondTop) same.keys ∙ keys)

pub versions_agree : VersionsAgree
unfolding policy_at
versions_agree one two same first second known =
    rw (first, second, known, known_same one two same true known)
    (ap (λ heads. heads >>= tables_of) (heads_same one two same))

pub version_two_is_version_one : VersionTwoIsVersionOne
unfolding policy_at
version_two_is_version_one one two policy same first second e =
    let (known, at, rest) = bind_at (known_keys level.Top one) (λ known. heads_at one >>= tables_of) policy (rw first at e) in
    rw (second, known_same one two same known at) (ap (λ heads. heads >>= tables_of) (heads_same one two same) ∙ rest)

module _ (document : Members) where
  by_version : (o : Option Data) → field_at key.Version document ≡ o → top_at document ≡ (or_fault (missing key.Version) o >>= top_in)
  unfolding top_at value_at
  by_version o e = ap (λ o. or_fault (missing key.Version) o >>= top_in) e

  stops : (f : Fault) → top_at document ≡ Err f → policy_at document ≡ Err f
  unfolding policy_at
  stops f e = rw e refl

  other_number : (n : ℤ) → n ≢ pos 1 → n ≢ pos 2 → top_in (integer n) ≡ Err version
  other_number (negsuc n) one two = refl
  other_number (pos n) one two = rw (ne-eqb n 1 (λ e. one (ap pos e)), ne-eqb n 2 (λ e. two (ap pos e))) refl

  no_number : (value : Data) → ((n : ℤ) → value ≢ integer n) → top_in value ≡ Err (kind key.Version)
  no_number (integer n) none = absurd (none n refl)
  no_number (string s) none = refl
  no_number _ none = refl

pub versions_are_two : VersionsAreTwo
versions_are_two document = record {
  one = λ e. by_version document (Some (integer (pos 1))) e;
  two = λ e. by_version document (Some (integer (pos 2))) e;
  other = λ n a b e. stops document version (by_version document (Some (integer n)) e ∙ other_number document n a b);
  no_number = λ value none e. stops document (kind key.Version) (by_version document (Some value) e ∙ no_number document value none);
  none = λ e. stops document (missing key.Version) (by_version document None e);
}
