-- Numbers are read as they are written.
use Rattle.std.proofs.Common.{◌≡◌, ℕ, ◌<◌, ◌≤◌, ◌+◌, ◌*◌, ◌-◌, ◌/◌, ◌%◌, ◌^◌, ◌==◌, ◌&&◌, true, false, Bool, suc, List, [], ◌∷◌, ◌++◌, Some, decimal, length, get_or, ltb, refl, sym, ap, subst, ◌∙◌, inl, inr, arith, rules, length-append}
use Rattle.std.specs.List.{list_all}
use Rattle.std.proofs.lemmas.Bool.{cases_Bool, ltb-true, true≢false}
use Rattle.std.proofs.lemmas.Bool.Decides.{nat_tests}
use Rattle.std.proofs.lemmas.Str.Parse.{IsNumeralModel, numerals_by_fold}
use Rattle.std.proofs.lemmas.Fmt.{decimal_by_steps, decimal-digits_value}
use Rattle.hg_trace.specs.Numbers.{is_digit, is_numeral, value_on, decimal_value, number_below}
use Rattle.hg_trace.proofs.Numerals.{number_below-some}
use Rattle.hg_trace.specs.NumberLaws.{NumbersAreDecimals}

own : IsNumeralModel (λ digits. list_all is_digit digits ≡ true) (value_on 0)
own = numerals_by_fold _ (search rules) value_on (search rules)

both : (a b : Bool) → a && b ≡ true → (a ≡ true) × (b ≡ true)
both true b h = (refl, h)
both false b h = absurd (cc)

-- what a numeral is made of
pub record Parts (word : List ℕ) : Type 0 where
  pub digits : list_all is_digit word ≡ true
  pub some : 0 < length word
  pub zero_alone : get_or word 0 0 ≡ 48 → length word ≡ 1

numeral_parts : (word : List ℕ) → is_numeral word ≡ true → Parts word
numeral_parts [] h = absurd (cc)
numeral_parts (digit ∷ digits) h =
    elim (cases_Bool (digit == 48)) [
      | inl e ↦ zero_parts digit digits e (rw e at h)
      | inr e ↦ record {
        digits = rw e at h;
        some = omega arith;
        zero_alone = λ zero. absurd (true≢false (sym (ap (λ d. d == 48) zero) ∙ e));
      }
    ]
  where
    zero_parts : (digit : ℕ) (digits : List ℕ) → (digit == 48) ≡ true → (length digits == 0) ≡ true → Parts (digit ∷ digits)
    zero_parts digit [] e h =
        let is : digit ≡ 48 = grind (arith, nat_tests) in
        record { digits = subst (λ d. list_all is_digit (d ∷ []) ≡ true) (sym is) refl; some = omega arith; zero_alone = λ zero. refl }
    zero_parts digit (x ∷ xs) e h = absurd (grind (arith, nat_tests))

parts_numeral : (word : List ℕ) → Parts word → is_numeral word ≡ true
parts_numeral [] p = absurd (omega (arith, p.some))
parts_numeral (digit ∷ digits) p =
    let alone = p.zero_alone in
    elim (cases_Bool (digit == 48)) [
      | inl e ↦ rw e (alone_is digit (length digits) e alone)
      | inr e ↦ rw e p.digits
    ]
  where
    alone_is : (digit len : ℕ) → (digit == 48) ≡ true → (digit ≡ 48 → suc len ≡ 1) → (len == 0) ≡ true
    alone_is digit len e alone =
        let is : digit ≡ 48 = grind (arith, nat_tests) in
        let none : len ≡ 0 = omega (arith, alone is) in
        subst (λ n. (n == 0) ≡ true) (sym none) refl

-- how a number is written
record Written (n : ℕ) (word : List ℕ) : Type 0 where
  digits : list_all is_digit word ≡ true
  value : decimal_value word ≡ n
  some : 0 < length word
  first : get_or word 0 0 ≡ 48 → n ≡ 0
  alone : n ≡ 0 → length word ≡ 1

value_on-push : (m d : ℕ) (digits : List ℕ) → value_on m (digits ++ d ∷ []) ≡ 10 * value_on m digits + (d - 48)
value_on-push m d [] = refl
value_on-push m d (x ∷ xs) = value_on-push (10 * m + (x - 48)) d xs

all-push : (d : ℕ) (digits : List ℕ) → list_all is_digit digits ≡ true → is_digit d ≡ true → list_all is_digit (digits ++ d ∷ []) ≡ true
all-push d [] all one = rw one refl
all-push d (x ∷ xs) all one =
    let parts = both (is_digit x) (list_all is_digit xs) all in
    let rest = all-push d xs parts.1 one in
    rw (parts.0, rest) refl

is_digit-written : (n : ℕ) → n < 10 → is_digit (48 + n) ≡ true
is_digit-written n small = grind (arith, nat_tests)

one_digit : (n : ℕ) → n < 10 → Written n ((48 + n) ∷ [])
one_digit n small =
    let yes = is_digit-written n small in
    record {
      digits = rw yes refl;
      value = omega arith;
      some = omega arith;
      first = λ zero. omega arith;
      alone = λ zero. refl;
    }

more_digits : (n : ℕ) (digits : List ℕ) → 10 ≤ n → Written (n / 10) digits → Written n (digits ++ (48 + n % 10) ∷ [])
more_digits n digits great w =
    record {
      digits = all-push (48 + n % 10) digits w.digits (is_digit-written (n % 10) (omega arith));
      value = value_on-push 0 (48 + n % 10) digits ∙ omega (arith, w.value);
      some = omega (arith, length-append digits ((48 + n % 10) ∷ []));
      first = first digits w.some w.first;
      alone = λ zero. absurd (omega arith);
    }
  where
    first : (digits : List ℕ) → 0 < length digits → (get_or digits 0 0 ≡ 48 → n / 10 ≡ 0) → get_or (digits ++ (48 + n % 10) ∷ []) 0 0 ≡ 48 → n ≡ 0
    first [] some zero is = absurd (omega arith)
    first (x ∷ xs) some zero is = absurd (omega (arith, zero is))

written : (n : ℕ) → n < 2 ^ 64 → Written n (decimal n)
written n small = decimal_by_steps Written one_digit more_digits n small

written_parts : (n : ℕ) (word : List ℕ) → Written n word → Parts word
written_parts n word w = record { digits = w.digits; some = w.some; zero_alone = λ zero. w.alone (w.first zero) }

reads : (limit n : ℕ) (word : List ℕ) → limit ≤ 2 ^ 64 → number_below limit word ≡ Some n → (word ≡ decimal n) × (n < limit)
reads limit n word fits h =
    elim (cases_Bool (is_numeral word)) [
      | inl numeral ↦ elim (cases_Bool (ltb (decimal_value word) limit)) [
        | inl below ↦
            let p = numeral_parts word numeral in
            let small : decimal_value word < limit = ltb-true (decimal_value word) limit below in
            let found : Some (decimal_value word) ≡ Some n = rw (numeral, below) at h in
            let value : decimal_value word ≡ n = cc in
            (sym (decimal-digits_value own word p.digits p.some p.zero_alone (omega arith)) ∙ ap decimal value, omega (arith, value))
        | inr past ↦ let none = rw (numeral, past) at h in absurd (cc)
      ]
      | inr other ↦ let none = rw other at h in absurd (cc)
    ]

read_back : (limit n : ℕ) (word : List ℕ) → limit ≤ 2 ^ 64 → (word ≡ decimal n) × (n < limit) → number_below limit word ≡ Some n
read_back limit n word fits (is, small) =
    let w = written n (omega arith) in
    ap (number_below limit) is
    ∙ sym (number_below-some limit n (decimal n) (sym (parts_numeral (decimal n) (written_parts n (decimal n) w))) (sym w.value) small)

pub numbers_are_decimals : NumbersAreDecimals
numbers_are_decimals limit n word fits = (reads limit n word fits, read_back limit n word fits)

-- a number is written in digits
pub digits-decimal : (n : ℕ) → n < 2 ^ 64 → list_all is_digit (decimal n) ≡ true
digits-decimal n small = let w = written n small in w.digits

pub length-decimal : (n : ℕ) → n < 2 ^ 64 → 0 < length (decimal n)
length-decimal n small = let w = written n small in w.some
