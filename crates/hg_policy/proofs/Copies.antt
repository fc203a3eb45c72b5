-- Names that are put into a second map one after the other.
use Rattle.std.proofs.Common.{◌≡◌, ℕ, Bool, true, false, ◌||◌, List, [], ◌∷◌, ◌++◌, length, map, String, Global, HashMap, string_bytes, string_eq, refl, sym, ap, ◌∙◌}
use Rattle.std.specs.List.{IsDistinct, AllByRecursion}
use Rattle.std.specs.Map.{keys_of}
use Rattle.std.specs.Str.{bytes_eq}
use Rattle.std.proofs.lemmas.Bool.{true≢false}
use Rattle.std.proofs.lemmas.List.{map_push, length-map}
use Rattle.std.proofs.lemmas.Map.Keys.{IsDistinct-head, IsDistinct-tail}
use Rattle.indexmap.specs.IndexMap.{insert_entry}
use Rattle.indexmap.proofs.CallerLemmas.{insert_entry-new}
use Rattle.hg_machine.specs.Policy.{Tenant}
use Rattle.hg_machine.specs.SoundPolicy.{IsSoundPolicy}
use Rattle.hg_policy.specs.declared.tenant_set.TenantSet.{TenantSet}
use Rattle.hg_policy.specs.TenantSets.{flags_of}
use Rattle.hg_policy.specs.Names.{is_among}
use Rattle.hg_policy.specs.Kept.{Named, tenants_of, names_of, admitted_of, policy_of}
use Rattle.hg_policy.specs.declared.policy.Policy.TheInside.{Inside}
use Rattle.hg_policy.specs.Copied.{by_text}
use Rattle.hg_policy.proofs.Names.{among-names, none_from}
use Rattle.hg_policy.proofs.Texts.{text_turned}

or_none : (a b : Bool) → (a || b) ≡ false → (a ≡ false) × (b ≡ false)
or_none true b e = absurd (true≢false e)
or_none false b e = (refl, e)

none_or : (a b : Bool) → a ≡ false → b ≡ false → (a || b) ≡ false
none_or a b e f = rw (e, f) refl

module _ {A : Type 0} where
  abbrev texts : List (List ℕ × A) → List (List ℕ)
  texts rows = map (λ row. row.0) rows

  -- no two of these texts are the same
  abbrev AreApart : List (List ℕ × A) → Type 0
  AreApart [] = Prim.Unit {0}
  AreApart (row ∷ rows) = (is_among row.0 (texts rows) ≡ false) × AreApart rows

  head_apart : (key : String Global) (named : Named A) → AllByRecursion (λ other. string_eq key other ≡ false) (keys_of named) → is_among (string_bytes key) (texts (by_text named)) ≡ false
  head_apart key [] e = refl
  head_apart key (one ∷ named) e = none_or (bytes_eq (string_bytes key) (string_bytes one.0)) (is_among (string_bytes key) (texts (by_text named))) e.0 (head_apart key named e.1)

  pub are_apart : (named : Named A) → IsDistinct string_eq (keys_of named) → AreApart (by_text named)
  are_apart [] e = tt
  are_apart (one ∷ named) e = (head_apart one.0 named (IsDistinct-head string_eq one.0 (keys_of named) e), are_apart named (IsDistinct-tail string_eq one.0 (keys_of named) e))

  -- a text in the middle is none of those before it
  other_text : (text : List ℕ) (before : List (List ℕ × A)) (row : List ℕ × A) (behind : List (List ℕ × A)) → is_among text (texts (before ++ row ∷ behind)) ≡ false → bytes_eq text row.0 ≡ false
  other_text text [] row behind e = (or_none (bytes_eq text row.0) (is_among text (texts behind)) e).0
  other_text text (one ∷ before) row behind e = other_text text before row behind (or_none (bytes_eq text one.0) (is_among text (texts (before ++ row ∷ behind))) e).1

  new_text : (before : List (List ℕ × A)) (row : List ℕ × A) (behind : List (List ℕ × A)) → AreApart (before ++ row ∷ behind) → is_among row.0 (texts before) ≡ false
  new_text [] row behind e = refl
  new_text (one ∷ before) row behind e =
      none_or (bytes_eq row.0 one.0) (is_among row.0 (texts before)) (text_turned row.0 one.0 ∙ other_text one.0 before row behind e.0) (new_text before row behind e.1)

  in_the_middle : (before : List (List ℕ × A)) (row : List ℕ × A) (behind : List (List ℕ × A)) → (before ++ row ∷ []) ++ behind ≡ before ++ row ∷ behind
  in_the_middle [] row behind = refl
  in_the_middle (one ∷ before) row behind = ap (λ rows. one ∷ rows) (in_the_middle before row behind)

  names-texts : (named : Named A) → names_of named ≡ texts (by_text named)
  names-texts [] = refl
  names-texts (one ∷ named) = ap (λ names. string_bytes one.0 ∷ names) (names-texts named)

  -- one name more
  pub one_more : {S : Type 0} (all : List (List ℕ × A)) (copy new : HashMap (String Global) A S) (rest next : Named A) (key name : String Global) (value : A)
      → AreApart all → by_text copy.entries ++ by_text rest ≡ all → rest ≡ (key, value) ∷ next → string_bytes name ≡ string_bytes key
      → new.entries ≡ insert_entry string_eq copy.entries name value
      → by_text new.entries ++ by_text next ≡ all
  one_more all copy new rest next key name value apart so_far is same entries =
      let row : List ℕ × A = (string_bytes name, value) in
      let here : by_text copy.entries ++ row ∷ by_text next ≡ all =
      ap (λ text. by_text copy.entries ++ (text, value) ∷ by_text next) same ∙ ap (λ rest. by_text copy.entries ++ by_text rest) (sym is) ∙ so_far in
      let absent : is_among (string_bytes name) (names_of copy.entries) ≡ false =
      ap (is_among (string_bytes name)) (names-texts copy.entries) ∙ new_text (by_text copy.entries) row (by_text next) (rw here apart) in
      let none = none_from _ (among-names (string_bytes name) copy.entries ∙ absent) in
      rw (entries, insert_entry-new string_eq copy name value none, map_push {Y = List ℕ × A} (λ one. (string_bytes one.0, one.1)) copy.entries (name, value))
      (in_the_middle (by_text copy.entries) row (by_text next) ∙ here)

  pub no_more : (rows : List (List ℕ × A)) → rows ++ [] ≡ rows
  no_more [] = refl
  no_more (row ∷ rows) = ap (λ rows. row ∷ rows) (no_more rows)

  pub same_names : (one other : Named A) → by_text one ≡ by_text other → names_of one ≡ names_of other
  same_names one other e = names-texts one ∙ ap texts e ∙ sym (names-texts other)

  pub same_length : (one other : Named A) → by_text one ≡ by_text other → length one ≡ length other
  same_length one other e =
      sym (length-map one (λ row. (string_bytes row.0, row.1))) ∙ ap length e ∙ length-map other (λ row. (string_bytes row.0, row.1))

tenants-texts : (named : Named ℕ) → tenants_of named ≡ map (λ row. record { name = row.0; limit = row.1 }) (by_text named)
tenants-texts [] = refl
tenants-texts (one ∷ named) = ap (λ (tenants : List Tenant). record { name = string_bytes one.0; limit = one.1 } ∷ tenants) (tenants-texts named)

pub same_tenants : (one other : Named ℕ) → by_text one ≡ by_text other → tenants_of one ≡ tenants_of other
same_tenants one other e = tenants-texts one ∙ ap (map (λ row. record { name = row.0; limit = row.1 })) e ∙ sym (tenants-texts other)

admitted-texts : (n : ℕ) (named : Named TenantSet) → admitted_of n named ≡ map (λ row. flags_of n row.1) (by_text named)
admitted-texts n [] = refl
admitted-texts n (one ∷ named) = ap (λ rows. flags_of n one.1 ∷ rows) (admitted-texts n named)

pub same_admitted : (n : ℕ) (one other : Named TenantSet) → by_text one ≡ by_text other → admitted_of n one ≡ admitted_of n other
same_admitted n one other e = admitted-texts n one ∙ ap (map (λ row. flags_of n row.1)) e ∙ sym (admitted-texts n other)

-- a policy that is kept, with the same names, segments and standings
module _ (p q : Inside) (workers : q.workers ≡ p.workers) (greatest : q.max_generation ≡ p.max_generation)
    (tenants : by_text q.tenants.entries ≡ by_text p.tenants.entries) (arenas : by_text q.arenas.entries ≡ by_text p.arenas.entries)
    (segments : q.segments.items ≡ p.segments.items) (standings : q.standings.items ≡ p.standings.items) where
  pub same_policy : policy_of q ≡ policy_of p
  same_policy =
      rw (
        workers,
        greatest,
        same_tenants q.tenants.entries p.tenants.entries tenants,
        same_names q.arenas.entries p.arenas.entries arenas,
        same_length q.tenants.entries p.tenants.entries tenants,
        same_admitted (length p.tenants.entries) q.arenas.entries p.arenas.entries arenas,
        segments,
        standings,
      )
      refl

  pub sound_too : IsSoundPolicy (policy_of p) → IsSoundPolicy (policy_of q)
  sound_too sound = rw same_policy sound
