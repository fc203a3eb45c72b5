-- What holds of each entry of a table that was read.
use Rattle.std.proofs.Common.{◌≡◌, ℕ, ◌+◌, nat_lt, arith, Bool, true, ◌&&◌, List, [], ◌∷◌, ◌++◌, length, Option, Some, None, Ok, Err, refl, sym, ap, ◌∙◌, inl, inr}
use Rattle.std.specs.List.{list_all}
use Rattle.std.proofs.Math.Bool.{and-true, and_assoc}
use Rattle.std.proofs.lemmas.Bool.{cases_Bool, ltb-false, le-leb}
use Rattle.std.proofs.lemmas.List.{length_push}
use Rattle.std.proofs.lemmas.List.Folds.{list_all-append}
use Rattle.toml.specs.Data.{Data, Members, array, table}
use Rattle.hg_policy_text.specs.declared.key.Key.{Key}
use Rattle.hg_policy_text.specs.declared.key.Counted.{Counted}
use Rattle.hg_policy_text.specs.Faults.{Read, ◌>>=◌, in_turn, or_fault, missing, too_many}
use Rattle.hg_policy_text.specs.Values.{field_at, value_at, or_else, elements, elements_in, with_table, entries_in, entries_at, at_most}
use Rattle.hg_policy_text.specs.Heads.{group_entries_at, line_entries_at}
use Rattle.hg_policy_text.specs.SaidLaws.{is_table, has_only, is_none_or, each_entry, has_at_most}
use Rattle.hg_policy_text.proofs.Chains.{bind_at, in_turn-counts}
use Rattle.hg_policy_text.proofs.SaidWords.{some_read, at_most-is}
use Rattle.hg_policy_text.specs.declared.key.Key.TheVariants as key
use Rattle.hg_policy_text.specs.declared.key.Counted.TheVariants as counted

-- where each step is taken of a good element alone, all of them are good
pub in_turn-all : {A X : Type 0} (step : A → X → Read A) (test : X → Bool) → ((done : A) (x : X) (next : A) → step done x ≡ Ok next → test x ≡ true)
    → (done : A) (xs : List X) (out : A) → in_turn step done xs ≡ Ok out → list_all test xs ≡ true
unfolding in_turn
in_turn-all step test good done [] out e = refl
in_turn-all step test good done (x ∷ xs) out e =
    let (next, at, rest) = bind_at (step done x) (λ next. in_turn step next xs) out e in
    rw (good done x next at) (in_turn-all step test good next xs out rest)

all-push : {X : Type 0} (test : X → Bool) (xs : List X) (x : X) → list_all test (xs ++ x ∷ []) ≡ (list_all test xs && test x)
all-push test xs x = list_all-append test xs (x ∷ []) ∙ ap (λ b. list_all test xs && b) (and-true (test x))

-- each element of a list that was read
pub has_only-read : (k : Key) (test : Data → Bool) (value : Data) (ds : List Data) → elements_in k value ≡ Ok ds → has_only test value ≡ list_all test ds
has_only-read k test (array items) ds e = let f : elements items ≡ ds = cc in rw (← f) refl
has_only-read k test _ ds e = cc

-- each entry of a table that was read
module _ (k : Key) (test : Members → Bool) where
  with_table-all : (done : List Members) (d : Data) (next : List Members) → with_table k done d ≡ Ok next → list_all test next ≡ (list_all test done && is_table test d)
  with_table-all done (table m) next e = let f : done ++ m ∷ [] ≡ next = cc in rw (← f) (all-push test done m)
  with_table-all done _ next e = cc

  tables-all : (done : List Members) (ds : List Data) (out : List Members) → in_turn (with_table k) done ds ≡ Ok out → list_all test out ≡ (list_all test done && list_all (is_table test) ds)
  unfolding in_turn
  tables-all done [] out e = let f : done ≡ out = cc in rw (← f) (sym (and-true (list_all test done)))
  tables-all done (d ∷ ds) out e =
      let (next, at, rest) = bind_at (with_table k done d) (λ next. in_turn (with_table k) next ds) out e in
      tables-all next ds out rest ∙ ap (λ b. b && list_all (is_table test) ds) (with_table-all done d next at) ∙ and_assoc (list_all test done) (is_table test d) (list_all (is_table test) ds)

  entries_in-all : (value : Data) (out : List Members) → entries_in k value ≡ Ok out → list_all test out ≡ has_only (is_table test) value
  unfolding entries_in
  entries_in-all value out e =
      let (ds, at, rest) = bind_at (elements_in k value) (λ ds. in_turn (with_table k) [] ds) out e in
      tables-all [] ds out rest ∙ sym (has_only-read k (is_table test) value ds at)

  else-all : (o : Option Data) (out : List Members) → or_else [] (entries_in k) o ≡ Ok out → list_all test out ≡ is_none_or (has_only (is_table test)) o
  else-all None out e = let f : [] ≡ out = cc in rw (← f) refl
  else-all (Some value) out e = entries_in-all value out e

  pub line_entries_at-all : (document : Members) (out : List Members) → line_entries_at k document ≡ Ok out → list_all test out ≡ each_entry k test document
  unfolding line_entries_at
  line_entries_at-all document out e = else-all (field_at k document) out e

  few-all : (most : ℕ) (c : Counted) (o : Option Data) (out : List Members) → or_else [] (λ value. entries_in k value >>= at_most most c) o ≡ Ok out → list_all test out ≡ is_none_or (has_only (is_table test)) o
  few-all most c None out e = let f : [] ≡ out = cc in rw (← f) refl
  few-all most c (Some value) out e =
      let (entries, at, rest) = bind_at (entries_in k value) (at_most most c) out e in
      rw (← at_most-is k test most c entries out rest) (entries_in-all value entries at)

  pub entries_at-all : (c : Counted) (most : ℕ) (document : Members) (out : List Members) → entries_at k c most document ≡ Ok out → list_all test out ≡ each_entry k test document
  unfolding entries_at value_at
  entries_at-all c most document out e =
      let (entries, at, rest) = bind_at (or_fault (missing k) (field_at k document) >>= entries_in k) (at_most most c) out e in
      let (value, there, read) = bind_at (or_fault (missing k) (field_at k document)) (entries_in k) entries at in
      rw (← at_most-is k test most c entries out rest)
      (entries_in-all value entries read ∙ sym (ap (is_none_or (has_only (is_table test))) (some_read (missing k) (field_at k document) value there)))

-- at most so many entries
with_table-one : (k : Key) (done : List Members) (d : Data) (next : List Members) → with_table k done d ≡ Ok next → length next ≡ length done + 1
with_table-one k done (table m) next e = let f : done ++ m ∷ [] ≡ next = cc in rw (← f) (length_push done m)
with_table-one k done _ next e = cc

few-entries : (most : ℕ) (c : Counted) (value : Data) (out : List Members) → (entries_in key.Group value >>= at_most most c) ≡ Ok out → has_at_most most value ≡ true
unfolding entries_in
few-entries most c (array items) out e =
    let (entries, at, rest) = bind_at (in_turn (with_table key.Group) [] (elements items)) (at_most most c) out e in
    let count = in_turn-counts (with_table key.Group) length (with_table-one key.Group) [] (elements items) entries at in
    elim (cases_Bool (nat_lt most (length entries))) [
      | inl over ↦ let f : Err (too_many c) ≡ Ok out = rw over at rest in cc
      | inr fits ↦ le-leb (length (elements items)) most (omega (arith, count, ltb-false most (length entries) fits))
    ]
few-entries most c _ out e = cc

few-groups : (o : Option Data) (out : List Members) → or_else [] (λ value. entries_in key.Group value >>= at_most 64 counted.Groups) o ≡ Ok out → is_none_or (has_at_most 64) o ≡ true
few-groups None out e = refl
few-groups (Some value) out e = few-entries 64 counted.Groups value out e

pub group_entries_at-few : (document : Members) (out : List Members) → group_entries_at document ≡ Ok out → is_none_or (has_at_most 64) (field_at key.Group document) ≡ true
unfolding group_entries_at
group_entries_at-few document out e = few-groups (field_at key.Group document) out e

pub group_entries_at-all : (test : Members → Bool) (document : Members) (out : List Members) → group_entries_at document ≡ Ok out → list_all test out ≡ each_entry key.Group test document
unfolding group_entries_at
group_entries_at-all test document out e = few-all key.Group test 64 counted.Groups (field_at key.Group document) out e
