-- The table of first sizes, computed over all of it.
use Rattle.std.proofs.Common.{◌≡◌, ℕ, ◌<◌, Bool, true, cond, ◌&&◌, nat_lt, nat_le, nat_eq, get_or}
use Rattle.std.proofs.Common.{Option, Some, None}
use Rattle.std.proofs.Common.{refl, ◌∙◌, zero-add, arith}
use Rattle.std.specs.List.{list_all, position, position_or_len, range_with_len}
use Rattle.std.proofs.lemmas.Bool.Decides.{nat_tests}
use Rattle.std.proofs.lemmas.List.Elements.{All-contains}
use Rattle.std.proofs.lemmas.List.Sums.{AllPass-from_list_all}
use Rattle.std.proofs.lemmas.List.FromFn.{get_or-range_with_len}
use Rattle.hg_size.specs.Sizes.{sizes}
use Rattle.hg_size.specs.declared.first.TheConstants.{FIRST}

-- where the first size that holds the words stands
abbrev at : ℕ → ℕ
at words = position_or_len (λ size. nat_le words size) sizes

abbrev is_told : ℕ → Bool
is_told words = nat_lt (at words) 36 && nat_eq (at words) (get_or FIRST words 0)

some_at : (n m : ℕ) → nat_lt n 36 && nat_eq n m ≡ true → cond (nat_lt n 36) (Some n) None ≡ Some m
some_at n m t = grind (arith, nat_tests)

pub first_holds : (words : ℕ) → words < 513 → position (λ size. nat_le words size) sizes ≡ Some
    (get_or FIRST words 0)
first_holds words below =
    let all : list_all is_told (range_with_len 0 513) ≡ true = refl in
    let here = All-contains (λ n. is_told n ≡ true) (range_with_len 0 513) words
    (AllPass-from_list_all is_told (range_with_len 0 513) all)
    (words, below, get_or-range_with_len 0 513 words words below ∙ zero-add words) in
    some_at (at words) (get_or FIRST words 0) here
