-- What is read one after the other, as a test of some of it.
use Rattle.std.proofs.Common.{◌≡◌, ◌≢◌, ℕ, ◌+◌, Bool, true, false, ◌||◌, List, [], ◌∷◌, ◌++◌, length, Option, Some, None, Ok, Err, refl, sym, ap, ◌∙◌, inl, inr, arith, codes, cond, add-zero, zero-add, nat_lt}
use Rattle.std.specs.List.{list_any, position, position_from}
use Rattle.std.specs.Option.{option_or}
use Rattle.std.specs.Str.{bytes_eq}
use Rattle.std.proofs.Math.Bool.{or-false, or-true, or_assoc}
use Rattle.std.proofs.lemmas.Bool.{cases_Bool, true≢false}
use Rattle.std.proofs.lemmas.Iterator.Adapters.{position_from-zero}
use Rattle.std.proofs.lemmas.List.Folds.{list_any-append}
use Rattle.toml.specs.Data.{Data, Members, string, integer, float, boolean, datetime, array, table}
use Rattle.hg_place.specs.declared.Right.{Right}
use Rattle.hg_place.specs.declared.Right.TheVariants as right
use Rattle.hg_machine.specs.Policy.{Rights, has_right, no_rights}
use Rattle.hg_policy_text.specs.declared.key.Key.{Key}
use Rattle.hg_policy_text.specs.declared.key.Key.TheVariants as key
use Rattle.hg_policy_text.specs.declared.key.Counted.{Counted}
use Rattle.hg_policy_text.specs.declared.key.Counted.TheVariants as counted
use Rattle.hg_policy_text.specs.Faults.{Fault, Read, ◌>>=◌, in_turn, or_fault, missing, kind, too_many}
use Rattle.hg_policy_text.specs.Values.{field_at, value_at, or_else, elements, elements_in, with_table, entries_in, at_most, entries_at}
use Rattle.hg_policy_text.specs.NameForm.{is_name, name_in, name_at}
use Rattle.hg_policy.specs.Rights.{and_right}
use Rattle.hg_policy_text.specs.Grants.{right_of, right_in}
use Rattle.hg_policy_text.specs.Lines.{with_right, rights_in}
use Rattle.hg_policy_text.specs.Heads.{group_entries_at, line_entries_at}
use Rattle.hg_policy_text.specs.SaidLaws.{is_text, has_some, is_table, is_there, says, has_entry, right_text}
use Rattle.hg_policy_text.proofs.Chains.{bind_at}
use Rattle.hg_policy.proofs.GrantTable.{has_none}
use Rattle.hg_policy.proofs.Texts.{same_text, text_same}

-- where each step adds what its element says, all of them say it
pub in_turn-says : {A X : Type 0} (step : A → X → Read A) (Kept : A → Type 0) (say : A → Bool) (test : X → Bool)
    → ((done : A) (x : X) (next : A) → step done x ≡ Ok next → Kept done → Kept next × (say next ≡ (say done || test x)))
    → (done : A) (xs : List X) (out : A) → in_turn step done xs ≡ Ok out → Kept done → say out ≡ (say done || list_any test xs)
unfolding in_turn
in_turn-says step Kept say test more done [] out e kept = let f : done ≡ out = cc in rw (← f) (sym (or-false (say done)))
in_turn-says step Kept say test more done (x ∷ xs) out e kept =
    let (next, at, rest) = bind_at (step done x) (λ next. in_turn step next xs) out e in
    let here = more done x next at kept in
    in_turn-says step Kept say test more next xs out rest here.0 ∙ ap (λ b. b || list_any test xs) here.1 ∙ or_assoc (say done) (test x) (list_any test xs)

pub list_any-push : {X : Type 0} (test : X → Bool) (xs : List X) (x : X) → list_any test (xs ++ x ∷ []) ≡ (list_any test xs || test x)
list_any-push test xs x = list_any-append test xs (x ∷ []) ∙ ap (λ b. list_any test xs || b) (or-false (test x))

-- the value that was read
pub some_read : {A : Type 0} (f : Fault) (o : Option A) (x : A) → or_fault f o ≡ Ok x → o ≡ Some x
some_read f None x e = cc
some_read f (Some y) x e = cc

pub says-read : (k : Key) (test : Data → Bool) (entry : Members) (value : Data) → value_at k entry ≡ Ok value → says k test entry ≡ test value
unfolding value_at
says-read k test entry value e = ap (is_there test) (some_read (missing k) (field_at k entry) value e)

name_in-is : (k : Key) (d : Data) (name : List ℕ) → name_in k d ≡ Ok name → d ≡ string name
name_in-is k (string text) name e = elim (cases_Bool (is_name text)) [
  | inl formed ↦ let f : Ok text ≡ Ok name = rw formed at e in cc
  | inr other ↦ let f : Err (kind k) ≡ Ok name = rw other at e in cc
]
name_in-is k (integer z) name e = cc
name_in-is k (float x) name e = cc
name_in-is k (boolean b) name e = cc
name_in-is k (datetime t) name e = cc
name_in-is k (array a) name e = cc
name_in-is k (table m) name e = cc

pub says-name : (k : Key) (text : List ℕ) (entry : Members) (name : List ℕ) → name_at k entry ≡ Ok name → says k (is_text text) entry ≡ bytes_eq text name
unfolding name_at
says-name k text entry name e =
    let (d, at, rest) = bind_at (value_at k entry) (name_in k) name e in
    says-read k (is_text text) entry d at ∙ ap (is_text text) (name_in-is k d name rest)

-- the elements of a list that was read
pub has_some-read : (k : Key) (test : Data → Bool) (value : Data) (ds : List Data) → elements_in k value ≡ Ok ds → has_some test value ≡ list_any test ds
has_some-read k test (array items) ds e = let f : elements items ≡ ds = cc in rw (← f) refl
has_some-read k test (string s) ds e = cc
has_some-read k test (integer z) ds e = cc
has_some-read k test (float x) ds e = cc
has_some-read k test (boolean b) ds e = cc
has_some-read k test (datetime t) ds e = cc
has_some-read k test (table m) ds e = cc

-- the entries of a table that was read
module _ (k : Key) (test : Members → Bool) where
  with_table-says : (done : List Members) (d : Data) (next : List Members) → with_table k done d ≡ Ok next → list_any test next ≡ (list_any test done || is_table test d)
  with_table-says done (table m) next e = let f : done ++ m ∷ [] ≡ next = cc in rw (← f) (list_any-push test done m)
  with_table-says done (string s) next e = cc
  with_table-says done (integer z) next e = cc
  with_table-says done (float x) next e = cc
  with_table-says done (boolean b) next e = cc
  with_table-says done (datetime t) next e = cc
  with_table-says done (array a) next e = cc

  entries_in-says : (value : Data) (out : List Members) → entries_in k value ≡ Ok out → list_any test out ≡ has_some (is_table test) value
  unfolding entries_in
  entries_in-says value out e =
      let (ds, at, rest) = bind_at (elements_in k value) (λ ds. in_turn (with_table k) [] ds) out e in
      in_turn-says (with_table k) (λ _. Prim.Unit {0}) (λ done. list_any test done) (is_table test) (λ done d next e _. (tt, with_table-says done d next e)) [] ds out rest tt
      ∙ sym (has_some-read k (is_table test) value ds at)

  pub at_most-is : (most : ℕ) (c : Counted) (entries out : List Members) → at_most most c entries ≡ Ok out → entries ≡ out
  at_most-is most c entries out e = elim (cases_Bool (nat_lt most (length entries))) [
    | inl over ↦ let f : Err (too_many c) ≡ Ok out = rw over at e in cc
    | inr fits ↦ let f : Ok entries ≡ Ok out = rw fits at e in cc
  ]

  pub entries_at-says : (c : Counted) (most : ℕ) (document : Members) (out : List Members) → entries_at k c most document ≡ Ok out → list_any test out ≡ has_entry k test document
  unfolding entries_at
  entries_at-says c most document out e =
      let (entries, at, rest) = bind_at (value_at k document >>= entries_in k) (at_most most c) out e in
      let (value, there, read) = bind_at (value_at k document) (entries_in k) entries at in
      rw (← at_most-is most c entries out rest) (entries_in-says value entries read ∙ sym (says-read k (has_some (is_table test)) document value there))

  else-says : (o : Option Data) (out : List Members) → or_else [] (entries_in k) o ≡ Ok out → list_any test out ≡ is_there (has_some (is_table test)) o
  else-says None out e = let f : [] ≡ out = cc in rw (← f) refl
  else-says (Some value) out e = entries_in-says value out e

  pub line_entries_at-says : (document : Members) (out : List Members) → line_entries_at k document ≡ Ok out → list_any test out ≡ has_entry k test document
  unfolding line_entries_at
  line_entries_at-says document out e = else-says (field_at k document) out e

  few-says : (most : ℕ) (c : Counted) (o : Option Data) (out : List Members) → or_else [] (λ value. entries_in k value >>= at_most most c) o ≡ Ok out → list_any test out ≡ is_there (has_some (is_table test)) o
  few-says most c None out e = let f : [] ≡ out = cc in rw (← f) refl
  few-says most c (Some value) out e =
      let (entries, at, rest) = bind_at (entries_in k value) (at_most most c) out e in
      rw (← at_most-is most c entries out rest) (entries_in-says value entries at)

pub group_entries_at-says : (test : Members → Bool) (document : Members) (out : List Members) → group_entries_at document ≡ Ok out → list_any test out ≡ has_entry key.Group test document
unfolding group_entries_at
group_entries_at-says test document out e = few-says key.Group test 64 counted.Groups (field_at key.Group document) out e

-- the rights of a list of words
right_of-is : (text : List ℕ) (q : Right) → right_of text ≡ Some q → text ≡ right_text q
right_of-is text q e = elim (cases_Bool (bytes_eq text (codes "read"))) [
  | inl is ↦ let f : Some right.Read ≡ Some q = rw is at e in let g : right.Read ≡ q = cc in rw (← g) (same_text text (codes "read") is)
  | inr n1 ↦ elim (cases_Bool (bytes_eq text (codes "write"))) [
    | inl is ↦ let f : Some right.Write ≡ Some q = rw (n1, is) at e in let g : right.Write ≡ q = cc in rw (← g) (same_text text (codes "write") is)
    | inr n2 ↦ elim (cases_Bool (bytes_eq text (codes "list"))) [
      | inl is ↦ let f : Some right.List ≡ Some q = rw (n1, n2, is) at e in let g : right.List ≡ q = cc in rw (← g) (same_text text (codes "list") is)
      | inr n3 ↦ elim (cases_Bool (bytes_eq text (codes "free"))) [
        | inl is ↦ let f : Some right.Free ≡ Some q = rw (n1, n2, n3, is) at e in let g : right.Free ≡ q = cc in rw (← g) (same_text text (codes "free") is)
        | inr n4 ↦ let none : Option Right = None in let f : none ≡ Some q = rw (n1, n2, n3, n4) at e in cc
      ]
    ]
  ]
]

pub right_in-is : (d : Data) (q : Right) → right_in d ≡ Ok q → d ≡ string (right_text q)
right_in-is (string text) q e = ap string (right_of-is text q (some_read (kind key.Rights) (right_of text) q e))
right_in-is (integer z) q e = cc
right_in-is (float x) q e = cc
right_in-is (boolean b) q e = cc
right_in-is (datetime t) q e = cc
right_in-is (array a) q e = cc
right_in-is (table m) q e = cc

and_right-says : (done : Rights) (q r : Right) → has_right (and_right done q) r ≡ (has_right done r || bytes_eq (right_text r) (right_text q))
and_right-says done right.Read right.Read = sym (or-true done.read)
and_right-says done right.Read right.Write = sym (or-false done.write)
and_right-says done right.Read right.List = sym (or-false done.list)
and_right-says done right.Read right.Free = sym (or-false done.free)
and_right-says done right.Write right.Read = sym (or-false done.read)
and_right-says done right.Write right.Write = sym (or-true done.write)
and_right-says done right.Write right.List = sym (or-false done.list)
and_right-says done right.Write right.Free = sym (or-false done.free)
and_right-says done right.List right.Read = sym (or-false done.read)
and_right-says done right.List right.Write = sym (or-false done.write)
and_right-says done right.List right.List = sym (or-true done.list)
and_right-says done right.List right.Free = sym (or-false done.free)
and_right-says done right.Free right.Read = sym (or-false done.read)
and_right-says done right.Free right.Write = sym (or-false done.write)
and_right-says done right.Free right.List = sym (or-false done.list)
and_right-says done right.Free right.Free = sym (or-true done.free)

pub rights_in-says : (r : Right) (value : Data) (rights : Rights) → rights_in value ≡ Ok rights → has_right rights r ≡ has_some (is_text (right_text r)) value
rights_in-says r value rights e =
    let (ds, at, rest) = bind_at (elements_in key.Rights value) (λ words. in_turn with_right no_rights words) rights e in
    in_turn-says with_right (λ _. Prim.Unit {0}) (λ done. has_right done r) (is_text (right_text r))
    (λ done d next e _.
    let (q, read, is) = bind_at (right_in d) (λ q. Ok (and_right done q)) next e in
    let f : and_right done q ≡ next = cc in
    (tt, rw (← f) (and_right-says done q r ∙ ap (λ x. has_right done r || is_text (right_text r) x) (sym (right_in-is d q read)))))
    no_rights ds rights rest tt
    ∙ ap (λ b. b || list_any (is_text (right_text r)) ds) (has_none r)
    ∙ sym (has_some-read key.Rights (is_text (right_text r)) value ds at)

-- the first place at which a test passes, once one more element is there
position_from-push : {X : Type 0} (test : X → Bool) (i : ℕ) (xs : List X) (y : X) → position_from test i (xs ++ y ∷ []) ≡ option_or (position_from test i xs) (cond (test y) (Some (i + length xs)) None)
position_from-push test i [] y = rw (add-zero i) refl
position_from-push test i (x ∷ xs) y = elim (cases_Bool (test x)) [
  | inl here ↦ rw here refl
  | inr apart ↦
      let one : i + 1 + length xs ≡ i + length (x ∷ xs) = omega arith in
      rw (apart, ← one) (position_from-push test (i + 1) xs y)
]

pub position-push : {X : Type 0} (test : X → Bool) (xs : List X) (y : X) → position test (xs ++ y ∷ []) ≡ option_or (position test xs) (cond (test y) (Some (length xs)) None)
position-push test xs y =
    position_from-zero test (xs ++ y ∷ [])
    ∙ position_from-push test 0 xs y
    ∙ ap (λ n. option_or (position_from test 0 xs) (cond (test y) (Some n) None)) (zero-add (length xs))
    ∙ ap (λ o. option_or o (cond (test y) (Some (length xs)) None)) (sym (position_from-zero test xs))
