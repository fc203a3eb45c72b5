-- What is told of a table, by the call that reads it.
use Rattle.std.proofs.Common.{◌≡◌, ℕ, zero, suc, ◌+◌, true, false, not, List, [], ◌∷◌, length, take, Option, Some, None, Result, Ok, Err, refl, ap, inl, inr, arith, add-one}
use Rattle.std.specs.Prelude.{is_err, is_some, IsSome}
use Rattle.std.specs.Option.{option_map}
use Rattle.std.proofs.lemmas.Bool.{cases_Bool}
use Rattle.std.proofs.lemmas.List.{take_all}
use Rattle.toml.specs.Data.{Members}
use Rattle.hg_policy_text.specs.declared.key.Key.{Key}
use Rattle.hg_policy_text.specs.declared.row.Row.{Row}
use Rattle.hg_policy_text.specs.declared.fault.PolicyFault.{PolicyFault}
use Rattle.hg_policy_text.specs.Faults.{Fault, Read, ◌>>=◌, in_turn, fault_of, FailsAs, Gives}
use Rattle.hg_policy_text.specs.FaultyRow.{Tells, first_refused, row_in, row_or, row_from}
use Rattle.hg_policy_text.proofs.FirstRefused.{position-no_number, position-fails}

FailsAs-is_err : {A : Type 0} (o : Option Fault) (s : Read A) → FailsAs o s → IsSome o → is_err s ≡ true
FailsAs-is_err None s fails there = cc
FailsAs-is_err (Some f) s fails there = rw fails refl

module _ {X A : Type 0} (view : X → A) (s : Read A) where
  -- nothing is told just where a fault is
  pub is_err-told : (r : Result X PolicyFault) (o : Option X) → Gives view r s → Tells r o → is_err s ≡ not (is_some o)
  is_err-told (Ok x) o gives tells = rw (gives, tells) refl
  is_err-told (Err e) o gives tells = rw tells.0 (FailsAs-is_err (fault_of e) s gives tells.1)

  -- what was read is told
  pub read-told : (r : Result X PolicyFault) (x : X) → Gives view r s → Tells r (Some x) → s ≡ Ok (view x)
  read-told (Ok y) x gives tells = let same : Some x ≡ Some y = tells in let is : x ≡ y = cc in rw is gives
  read-told (Err e) x gives tells = let no : Some x ≡ None = tells.0 in cc

pub row_or-refused : {A : Type 0} (row : Option Row) (told : A → Option Row) (s : Read A) → is_err s ≡ true → row_or row told s ≡ row
row_or-refused row told (Ok x) e = cc
row_or-refused row told (Err f) e = refl

pub row_or-read : {A : Type 0} (row after : Option Row) (s : Read A) → is_err s ≡ false → row_or row (λ _. after) s ≡ after
row_or-read row after (Ok x) e = refl
row_or-read row after (Err f) e = cc

module _ {X A : Type 0} (table : Key) (read : List Members → Read A) (view : X → A) (told : A → Option Row) (rows : List Members) where
  pub row_from-told : (r : Result X PolicyFault) (x : X) → Gives view r (read rows) → Tells r (Some x) → row_from table read rows told ≡ told (view x)
  row_from-told r x gives tells = ap (row_or (row_in table read rows) told) (read-told view (read rows) r x gives tells)

  pub row_from-refused : (r : Result X PolicyFault) → Gives view r (read rows) → Tells r None → row_from table read rows told ≡ row_in table read rows
  row_from-refused r gives tells = row_or-refused (row_in table read rows) told (read rows) (is_err-told view (read rows) r None gives tells)

pub option_map-None : {A B : Type 0} (f : A → B) (o : Option A) → option_map f o ≡ None → o ≡ None
option_map-None f None e = refl
option_map-None f (Some x) e = cc

module _ {A X : Type 0} (step : A → X → Read A) where
  then_refused : (r : Read A) (next later : A → Read A) → ((y : A) → is_err (next y) ≡ true → is_err (later y) ≡ true) → is_err (r >>= next) ≡ true → is_err (r >>= later) ≡ true
  then_refused (Ok y) next later h e = h y e
  then_refused (Err f) next later h e = refl

  -- rows that begin with refused ones are refused
  in_turn-refused : (done : A) (xs : List X) (k : ℕ) → is_err (in_turn step done (take k xs)) ≡ true → is_err (in_turn step done xs) ≡ true
  unfolding in_turn
  in_turn-refused done xs zero e = let no : false ≡ true = e in cc
  in_turn-refused done [] (suc k) e = e
  in_turn-refused done (x ∷ xs) (suc k) e = then_refused (step done x) (λ next. in_turn step next (take k xs)) (λ next. in_turn step next xs) (λ y h. in_turn-refused y xs k h) e

  module _ (done : A) (xs : List X) where
    pub first_refused-read : is_err (in_turn step done xs) ≡ false → first_refused (in_turn step done) xs ≡ None
    first_refused-read read =
        position-no_number (λ n. is_err (in_turn step done (take (n + 1) xs))) (length xs)
        (λ k h.
        elim (cases_Bool (is_err (in_turn step done (take (k + 1) xs)))) [
          | inl refused ↦ let all : is_err (in_turn step done xs) ≡ true = in_turn-refused done xs (k + 1) refused in cc
          | inr passes ↦ passes
        ])

    last_read : (n : ℕ) → length xs ≡ n → first_refused (in_turn step done) xs ≡ None → is_err (in_turn step done (take n xs)) ≡ false
    unfolding in_turn
    last_read zero long none = refl
    last_read (suc n) long none = rw add-one at (position-fails (λ n. is_err (in_turn step done (take (n + 1) xs))) (length xs) n none (omega (arith, long)))

    pub read-first_refused : first_refused (in_turn step done) xs ≡ None → is_err (in_turn step done xs) ≡ false
    read-first_refused none = rw (take_all (length xs) xs (omega arith)) at (last_read (length xs) refl none)

    -- the row of a table that is read, and that of one which is refused
    pub row_in-read : (table : Key) → row_in table (in_turn step done) xs ≡ None → is_err (in_turn step done xs) ≡ false
    row_in-read table none =
        let row : ℕ → Row = λ n. record { table = table; number = n; rows = length xs } in
        read-first_refused (option_map-None row (first_refused (in_turn step done) xs) none)

    pub row_in-refused : (table : Key) (row : Row) → row_in table (in_turn step done) xs ≡ Some row → is_err (in_turn step done xs) ≡ true
    row_in-refused table row there =
        elim (cases_Bool (is_err (in_turn step done xs))) [
          | inl refused ↦ refused
          | inr read ↦ let none : None ≡ Some row = rw (first_refused-read read) at there in cc
        ]
