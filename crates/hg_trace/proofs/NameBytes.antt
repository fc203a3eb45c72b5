-- Names are text.
use Rattle.std.proofs.Common.{◌≡◌, ℕ, ◌<◌, true, false, Bool, ◌&&◌, List, [], ◌∷◌, length, ltb, refl, arith}
use Rattle.std.specs.Str.{IsAscii, IsUtf8}
use Rattle.std.specs.List.{list_all}
use Rattle.std.proofs.lemmas.Bool.Decides.{nat_tests}
use Rattle.std.proofs.lemmas.Str.{IsUtf8-from_ascii}
use Rattle.std.proofs.lemmas.Str.Ascii.{IsAscii-nil, IsAscii-cons}
use Rattle.hg_policy_text.specs.NameForm.{is_lower, is_name_byte, is_name}

both : (a b : Bool) → a && b ≡ true → (a ≡ true) × (b ≡ true)
both true b h = (refl, h)
both false b h = absurd (cc)

pub letter_is_ascii : (b : ℕ) → is_lower b ≡ true → b < 128
letter_is_ascii b h = grind (arith, nat_tests)

pub name_byte_is_ascii : (b : ℕ) → is_name_byte b ≡ true → b < 128
name_byte_is_ascii b h = grind (arith, nat_tests)

pub IsAscii-from_name_bytes : (bs : List ℕ) → list_all is_name_byte bs ≡ true → IsAscii bs
IsAscii-from_name_bytes [] h = IsAscii-nil
IsAscii-from_name_bytes (b ∷ bs) h =
    let parts = both (is_name_byte b) (list_all is_name_byte bs) h in
    IsAscii-cons b bs (name_byte_is_ascii b parts.0) (IsAscii-from_name_bytes bs parts.1)

pub IsUtf8-from_name : (bs : List ℕ) → is_name bs ≡ true → IsUtf8 bs
IsUtf8-from_name [] h = absurd (cc)
IsUtf8-from_name (b ∷ bs) h =
    let parts = both (is_lower b) (ltb (length bs) 16 && list_all is_name_byte bs) h in
    let rest = both (ltb (length bs) 16) (list_all is_name_byte bs) parts.1 in
    IsUtf8-from_ascii (b ∷ bs) (IsAscii-cons b bs (letter_is_ascii b parts.0) (IsAscii-from_name_bytes bs rest.1))
