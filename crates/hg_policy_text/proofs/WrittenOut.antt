-- Characters that are written out.
use Rattle.std.proofs.Common.{◌≡◌, ◌==◌, ◌++◌, ℕ, true, false, List, [], ◌∷◌, codes, encode_utf8, nat_lt, ◌<◌, arith, IsAscii, refl}
use Rattle.std.specs.List.{list_all}
use Rattle.std.proofs.lemmas.Bool.{and_parts, ltb-true}
use Rattle.std.proofs.lemmas.Bool.Decides.{nat_tests}
use Rattle.std.proofs.lemmas.Str.{encode_ascii}
use Rattle.std.proofs.lemmas.Str.Ascii.{IsAscii-nil, IsAscii-cons}
use Rattle.hg_policy_text.specs.OneLine.{hex_digit, four_digits, is_written_out, written}

IsAscii-tested : (bs : List ℕ) → list_all (λ b. nat_lt b 128) bs ≡ true → IsAscii bs
IsAscii-tested [] h = IsAscii-nil
IsAscii-tested (b ∷ bs) h =
    let both = and_parts (nat_lt b 128) (list_all (λ b. nat_lt b 128) bs) h in
    IsAscii-cons b bs (ltb-true b 128 both.0) (IsAscii-tested bs both.1)

-- a digit is one byte
pub encode-hex_digit : (n : ℕ) → encode_utf8 (hex_digit n) ≡ hex_digit n ∷ []
encode-hex_digit n = encode_ascii (hex_digit n) (IsAscii-tested (codes "0123456789ABCDEF") refl n)

-- what is written out is below 65,536
pub out-below : (c : ℕ) → is_written_out c ≡ true → c < 65536
out-below c h = grind (arith, nat_tests)

pub written-out : (c : ℕ) → (c == 8) ≡ false → (c == 9) ≡ false → (c == 10) ≡ false → (c == 12) ≡ false → (c == 13) ≡ false → is_written_out c ≡ true → written c ≡ codes "\\u" ++ four_digits c
written-out c a b d e f h = rw (a, b, d, e, f, h)
