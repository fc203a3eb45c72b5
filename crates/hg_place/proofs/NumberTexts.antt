-- How numbers are written, and read back.
use Rattle.std.proofs.Common.{◌≡◌, ◌≢◌, ℕ, ◌<◌, ◌^◌, ◌∷◌, [], zero, suc, List, Result, Ok, length, get_or, decimal, sym, ap, ◌∙◌, arith}
use Rattle.std.specs.Str.Parse.{AllDigits, ParsesUnsigned, digits_value}
use Rattle.std.proofs.lemmas.Str.Parse.{IsNumeralModel, numerals_by_value, tells_digits, not_in_digits, parse_plain}
use Rattle.std.proofs.lemmas.Fmt.{digits_decimal, decimal_digit, decimal-digits_value, first_decimal, parse-decimal}
use Rattle.hg_place.specs.Texts.{BeginsPlainly}

own : IsNumeralModel (AllDigits 10) (digits_value 10)
own = numerals_by_value (AllDigits 10) tells_digits

-- a number is written with no sign, and with a 0 first only where it is 0
pub BeginsPlainly-decimal : (n : ℕ) → n < 2 ^ 64 → BeginsPlainly (decimal n)
BeginsPlainly-decimal zero small =
    let alone : decimal 0 ≡ 48 ∷ [] = decimal_digit 0 (omega arith) in
    let first : get_or (decimal 0) 0 0 ≡ 48 = ap (λ l. get_or l 0 0) alone in
    (λ plus. omega arith, λ is. ap length alone)
BeginsPlainly-decimal (suc n) small =
    let above = first_decimal (suc n) (omega arith) small in
    (λ plus. omega arith, λ zero. absurd (omega arith))

-- a text that begins so is how the number is written that is read of it
pub number_read : (text : List ℕ) (n : ℕ) → ParsesUnsigned {E = ℕ} 64 10 text (Ok n) → BeginsPlainly text → text ≡ decimal n
number_read text n read plain =
    let (parts, is) = parse_plain own {E = ℕ} 64 text (Ok n) read plain.0 in
    sym (decimal-digits_value own text parts.0 parts.1 plain.1 parts.2) ∙ ap decimal (sym is)

abbrev read_as : ℕ → Result ℕ ℕ
read_as n = Ok n

-- and no other number is written so
pub number_only : (text : List ℕ) (m n : ℕ) → ParsesUnsigned {E = ℕ} 64 10 text (Ok m) → n < 2 ^ 64 → text ≡ decimal n → m ≡ n
number_only text m n read small is =
    let same : read_as m ≡ read_as n = parse-decimal 64 n text (read_as m) small small is read in
    cc

-- a number has no dot
pub no_dot : (n : ℕ) → n < 2 ^ 64 → (i : ℕ) → i < length (decimal n) → get_or (decimal n) i 0 ≢ 46
no_dot n small = not_in_digits own (decimal n) 46 (digits_decimal own n small) (λ range. omega arith)
