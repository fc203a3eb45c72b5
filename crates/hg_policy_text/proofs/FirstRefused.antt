-- The first row of a table that is refused.
use Rattle.std.proofs.Common.{◌≡◌, ℕ, zero, suc, ◌+◌, ◌<◌, ◌≤◌, Bool, true, false, ◌||◌, List, [], ◌∷◌, length, map, take, get_or, Some, None, Ok, Err, refl, sym, ap, ◌∙◌, inl, inr, below_more, arith, add-one}
use Rattle.std.specs.Prelude.{position, is_err}
use Rattle.std.specs.List.{range_with_len, position_or_len, list_any}
use Rattle.std.proofs.Math.Bool.{or-true}
use Rattle.std.proofs.lemmas.Bool.{lt-ltb, le-ltb, cases_Bool, cases_lt}
use Rattle.std.proofs.lemmas.List.{length-map, take-map}
use Rattle.std.proofs.lemmas.List.Folds.{list_any_more}
use Rattle.std.proofs.lemmas.List.FromFn.{length-range_with_len, get_or-range_with_len}
use Rattle.std.proofs.lemmas.List.Sums.{position_or_len_is, passes_at_first, fails_before_first}
use Rattle.std.proofs.lemmas.List.Quantifiers.{position-Some}
use Rattle.hg_policy_text.specs.declared.key.Key.{Key}
use Rattle.hg_policy_text.specs.Faults.{Read, ◌>>=◌, in_turn}
use Rattle.hg_policy_text.specs.FaultyRow.{first_refused, row_in}

-- of the numbers below n the first that passes is i, where it passes and none before it does
module _ (p : ℕ → Bool) (n : ℕ) where
  number_at : (k : ℕ) → k < n → p (get_or (range_with_len 0 n) k 0) ≡ p k
  number_at k within = ap p (get_or-range_with_len 0 n k 0 within ∙ omega arith)

  pub position-numbers : (i : ℕ) → i < n → p i ≡ true → ((k : ℕ) → k < i → p k ≡ false) → position p (range_with_len 0 n) ≡ Some i
  position-numbers i within here before =
      let long : length (range_with_len 0 n) ≡ n = length-range_with_len 0 n in
      let is : position_or_len p (range_with_len 0 n) ≡ i = position_or_len_is p (range_with_len 0 n) i 0 (omega (arith, long)) (λ k h. number_at k (omega arith) ∙ before k h) (λ _. number_at i within ∙ here) in
      rw (is, long, lt-ltb i n within) refl

  pub position-no_number : ((k : ℕ) → k < n → p k ≡ false) → position p (range_with_len 0 n) ≡ None
  position-no_number none =
      let long : length (range_with_len 0 n) ≡ n = length-range_with_len 0 n in
      let is : position_or_len p (range_with_len 0 n) ≡ n = position_or_len_is p (range_with_len 0 n) n 0 (omega (arith, long)) (λ k h. number_at k h ∙ none k h) (λ h. absurd (omega (arith, long))) in
      rw (is, long, le-ltb n n (omega arith)) refl

  -- and where one is found, it passes, and none before it does
  pub position-at : (i : ℕ) → position p (range_with_len 0 n) ≡ Some i → (i < n) × (p i ≡ true) × ((k : ℕ) → k < i → p k ≡ false)
  position-at i found =
      let at = position-Some p (range_with_len 0 n) i 0 found in
      let within : i < n = omega (arith, at.0, length-range_with_len 0 n) in
      (within, sym (number_at i within) ∙ at.1, λ k h. sym (number_at k (omega arith)) ∙ at.2 k h)

-- where none passes, each fails
pub position-fails : (p : ℕ → Bool) (n k : ℕ) → position p (range_with_len 0 n) ≡ None → k < n → p k ≡ false
position-fails p n k none within =
    let long : length (range_with_len 0 n) ≡ n = length-range_with_len 0 n in
    elim (cases_lt (position_or_len p (range_with_len 0 n)) (length (range_with_len 0 n))) [
      | inl first ↦ let some : Some (position_or_len p (range_with_len 0 n)) ≡ None = rw lt-ltb at none in cc
      | inr past ↦ ap p (sym (get_or-range_with_len 0 n k 0 within ∙ omega arith)) ∙ fails_before_first p (range_with_len 0 n) k 0 (omega (arith, long))
    ]

-- the rows up to each of so many are read
abbrev pub AreRead : {A X : Type 0} → (List X → Read A) → List X → ℕ → Type 0
AreRead read rows i = (k : ℕ) → k < i → is_err (read (take (k + 1) rows)) ≡ false

module _ {A X Y : Type 0} (table : Key) (read : List Y → Read A) (f : X → Y) (xs : List X) where
  pub AreRead-more : (i : ℕ) → AreRead read (map f xs) i → is_err (read (map f (take (i + 1) xs))) ≡ false → AreRead read (map f xs) (i + 1)
  AreRead-more i before here = below_more _ _ before (ap (λ rows. is_err (read rows)) (take-map f (i + 1) xs) ∙ here)

  pub row_in-here : (i : ℕ) → AreRead read (map f xs) i → i < length xs → is_err (read (map f (take (i + 1) xs))) ≡ true → row_in table read (map f xs) ≡ Some record { table = table; number = i; rows = length xs }
  row_in-here i before within here =
      let long : length (map f xs) ≡ length xs = length-map xs f in
      let first : first_refused read (map f xs) ≡ Some i = position-numbers (λ n. is_err (read (take (n + 1) (map f xs)))) (length (map f xs)) i (omega (arith, long)) (ap (λ rows. is_err (read rows)) (take-map f (i + 1) xs) ∙ here) before in
      rw (first, long) refl

  pub row_in-none : (i : ℕ) → AreRead read (map f xs) i → length xs ≤ i → row_in table read (map f xs) ≡ None
  row_in-none i before past =
      let long : length (map f xs) ≡ length xs = length-map xs f in
      let first : first_refused read (map f xs) ≡ None = position-no_number (λ n. is_err (read (take (n + 1) (map f xs)))) (length (map f xs)) (λ k h. before k (omega (arith, long))) in
      rw first refl

pub is_err-bind : {A B : Type 0} (s : Read A) (next : A → B) → is_err (s >>= λ x. Ok (next x)) ≡ is_err s
is_err-bind (Ok x) next = refl
is_err-bind (Err f) next = refl

-- where what is refused is refused whatever was read before
module _ {A X : Type 0} (step : A → X → Read A) (bad : X → Bool) (alone : (done : A) (x : X) → is_err (step done x) ≡ bad x) where
  is_err-first : (r : Read A) (b : Bool) (next : A → Read A) (rest : Bool) → is_err r ≡ b → ((done : A) → is_err (next done) ≡ rest) → is_err (r >>= next) ≡ (b || rest)
  is_err-first (Ok done) b next rest e later = rw (← e) (later done)
  is_err-first (Err f) b next rest e later = rw (← e) refl

  pub is_err-in_turn : (done : A) (xs : List X) → is_err (in_turn step done xs) ≡ list_any bad xs
  unfolding in_turn
  is_err-in_turn done [] = refl
  is_err-in_turn done (x ∷ xs) = is_err-first (step done x) (bad x) (λ next. in_turn step next xs) (list_any bad xs) (alone done x) (λ next. is_err-in_turn next xs)

  read_so_far : (done : A) (xs : List X) (i : ℕ) → AreRead (in_turn step done) xs i → list_any bad (take i xs) ≡ false
  read_so_far done xs zero before = refl
  read_so_far done xs (suc i) before = sym (is_err-in_turn done (take (suc i) xs)) ∙ (rw add-one at (before i (omega arith)))

  -- one more
  pub is_err-more : (done : A) (xs : List X) (i : ℕ) (d : X) → AreRead (in_turn step done) xs i → i < length xs → is_err (in_turn step done (take (i + 1) xs)) ≡ bad (get_or xs i d)
  is_err-more done xs i d before within =
      is_err-in_turn done (take (i + 1) xs)
      ∙ list_any_more bad xs i d within
      ∙ ap (λ b. b || bad (get_or xs i d)) (read_so_far done xs i before)

  none_before : (xs : List X) (k : ℕ) → k ≤ position_or_len bad xs → list_any bad (take k xs) ≡ false
  none_before xs zero h = refl
  none_before [] (suc k) h = refl
  none_before (x ∷ xs) (suc k) h =
      elim (cases_Bool (bad x)) [
        | inl here ↦ let short : suc k ≤ 0 = rw here at h in absurd (omega arith)
        | inr passes ↦ let more : suc k ≤ 1 + position_or_len bad xs = rw passes at h in rw passes (none_before xs k (omega arith))
      ]

  -- the first that is refused by itself
  pub first_refused-alone : (done : A) (xs : List X) (d : X) → first_refused (in_turn step done) xs ≡ position bad xs
  first_refused-alone done xs d =
      let i = position_or_len bad xs in
      let p : ℕ → Bool = λ n. is_err (in_turn step done (take (n + 1) xs)) in
      let before : (k : ℕ) → k < i → p k ≡ false = λ k h. is_err-in_turn done (take (k + 1) xs) ∙ none_before xs (k + 1) (omega arith) in
      elim (cases_lt i (length xs)) [
        | inl within ↦
            let here : p i ≡ true = is_err-in_turn done (take (i + 1) xs) ∙ list_any_more bad xs i d within ∙ ap (λ b. list_any bad (take i xs) || b) (passes_at_first bad xs d within) ∙ or-true (list_any bad (take i xs)) in
            position-numbers p (length xs) i within here before ∙ rw lt-ltb refl
        | inr past ↦ position-no_number p (length xs) (λ k h. before k (omega arith)) ∙ rw le-ltb refl
      ]
