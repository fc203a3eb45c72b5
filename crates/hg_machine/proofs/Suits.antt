-- Pages that suit a request, by the classes of the pages of one segment.
use Rattle.std.proofs.Common.{◌≡◌, ℕ, ◌==◌, ◌%◌, ◌⊎◌, inl, inr, Bool, true, false, Option, Some, None, ap, refl, sym, ◌∙◌}
use Rattle.std.proofs.lemmas.Bool.{eqb-true, eq-eqb}
use Rattle.std.proofs.lemmas.Option.{none-some, same_Some}
use Rattle.hg_size.specs.Runs.{may_begin}
use Rattle.hg_size.proofs.Covers.{AreAlike, begins_alike}
use Rattle.hg_size.proofs.Within.{AreWithin, begins_within}
use Rattle.hg_machine.specs.Holders.{is_number}
use Rattle.hg_machine.specs.Room.{suits}

-- the same pages, in another map
pub suits_alike : (class next : ℕ → Option ℕ) (size : ℕ) (wanted : Option ℕ) (page : ℕ)
    → AreAlike class next page
    → suits next size wanted page ≡ suits class size wanted page
suits_alike class next size None page same = begins_alike class next size page same
suits_alike class next size (Some w) page same = ap (is_number w) (same page refl)

pub number_some : (n : ℕ) (o : Option ℕ) → is_number n o ≡ true → o ≡ Some n
number_some n None e = absurd (cc)
number_some n (Some m) e = ap Some (eqb-true m n e)

pub number_has : (n : ℕ) (o : Option ℕ) → o ≡ Some n → is_number n o ≡ true
number_has n None e = absurd (none-some n e)
number_has n (Some m) e = eq-eqb m n (same_Some _ _ e)

-- a page that suits has the class already, or may get it
pub suits_is : (class : ℕ → Option ℕ) (size page : ℕ) (wanted : Option ℕ)
    → (wanted ≡ Some size) ⊎ (wanted ≡ None) → suits class size wanted page ≡ true
    → (class page ≡ Some size) ⊎ (may_begin class size page ≡ true)
suits_is class size page None o e = inr e
suits_is class size page (Some w) (inl same) e = inl (number_some w (class page) e ∙ same)
suits_is class size page (Some w) (inr none) e = absurd (none-some w (sym none))

-- by the pages of one segment, numbered there
pub suits_within : (class next : ℕ → Option ℕ) (size : ℕ) (wanted : Option ℕ) (page : ℕ)
    → AreWithin class next page
    → suits next size wanted page ≡ suits class size wanted (page % 16)
suits_within class next size None page same = begins_within class next size page same
suits_within class next size (Some w) page same = ap (is_number w) (same page refl)
