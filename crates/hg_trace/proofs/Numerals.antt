-- Digits make a number no smaller.
use Rattle.std.proofs.Common.{◌≡◌, ℕ, ◌<◌, ◌≤◌, ◌+◌, ◌*◌, ◌-◌, ◌^◌, ◌∙◌, true, false, List, [], ◌∷◌, Some, None, length, drop, get_or, ltb, refl, ap, inl, inr, arith}
use Rattle.std.proofs.lemmas.Bool.{cases_Bool, le-ltb, lt-ltb}
use Rattle.std.proofs.lemmas.List.{drop_more}
use Rattle.std.specs.List.{list_all}
use Rattle.hg_trace.specs.Numbers.{value_on, decimal_value, number_below, number_on, is_numeral, is_digit}

pub value_on-ge : (n : ℕ) (digits : List ℕ) → n ≤ value_on n digits
value_on-ge n [] = omega arith
value_on-ge n (digit ∷ digits) = omega (arith, value_on-ge (10 * n + (digit - 48)) digits)

pub number_below-some : (limit n : ℕ) (word : List ℕ) → true ≡ is_numeral word → n ≡ decimal_value word → n < limit → Some n ≡ number_below limit word
number_below-some limit n word digits is small =
    let yes : ltb (decimal_value word) limit ≡ true = lt-ltb (decimal_value word) limit (rw (← is) small) in
    rw (is, ← digits, yes) refl

-- one more digit is read
pub number_on-digit : (n i : ℕ) (digits : List ℕ) → i < length digits → is_digit (get_or digits i 0) ≡ true
    → number_on n (drop i digits) ≡ number_on (10 * n + (get_or digits i 0 - 48)) (drop (i + 1) digits)
number_on-digit n i digits within digit = ap (number_on n) (drop_more digits i 0 within) ∙ rw digit refl

-- a number of more than 64 bits is none
pub number_on-great : (n : ℕ) (digits : List ℕ) → 2 ^ 64 ≤ n → number_on n digits ≡ None
number_on-great n digits great =
    let no : ltb (value_on n digits) (2 ^ 64) ≡ false = le-ltb (value_on n digits) (2 ^ 64) (omega (arith, value_on-ge n digits)) in
    elim (cases_Bool (list_all is_digit digits)) [
      | inl e ↦ rw (e, no) refl
      | inr e ↦ rw e refl
    ]
