-- How many entries stand on all lists together.
use Rattle.std.specs.Prelude.{◌≡◌, ℕ, ◌+◌, ◌<◌, length}
use Rattle.std.specs.List.{sum_by}
use Rattle.hg_lists.specs.Lists.{Lists, IsSomewhere, IsNowhere, AreApart, with_front, without_entry}

-- the lengths of all lists, added up
abbrev pub total : Lists → ℕ
total m = sum_by length m.by_key

-- one more, where an entry is put in front of a list
abbrev pub FrontAddsOne : Type 0
FrontAddsOne =
    (m : Lists) (key entry : ℕ) → key < length m.by_key
    → total (with_front m key entry) ≡ total m + 1

-- one less, where an entry that stands somewhere is taken out
abbrev pub RemovalTakesOne : Type 0
RemovalTakesOne =
    (m : Lists) (entry : ℕ) → AreApart m → IsSomewhere m entry
    → total (without_entry m entry) + 1 ≡ total m

-- as many, where the entry stands nowhere
abbrev pub RemovalOfNoneTakesNone : Type 0
RemovalOfNoneTakesNone =
    (m : Lists) (entry : ℕ) → IsNowhere m entry → total (without_entry m entry) ≡ total m
