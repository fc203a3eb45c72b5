-- The place in the hand and the place of the observed word.
use Rattle.std.proofs.Common.{◌≡◌, ℕ, true, Option, Some, None, refl, ap, ◌∙◌}
use Rattle.std.proofs.lemmas.Bool.{eq-eqb, eqb-true}
use Rattle.hg_place.specs.Places.{page_of}
use Rattle.hg_machine.specs.Holders.{is_number}
use Rattle.hg_agreement.specs.Views.{Shown}
use Rattle.hg_agreement.specs.Witness.{is_shown_at, is_on, is_shown_on}

pub number_is : (n : ℕ) (o : Option ℕ) → o ≡ Some n → is_number n o ≡ true
number_is n o e = ap (is_number n) e ∙ eq-eqb n n refl

pub shown_some : (shown : Option Shown) (n : ℕ) → is_shown_at shown n ≡ true
    → (s : Shown) × (shown ≡ Some s) × (s.place ≡ n)
shown_some None n e = absurd (cc)
shown_some (Some s) n e = (s, refl, eqb-true s.place n e)

pub on_some : (page : ℕ) (o : Option ℕ) → is_on page o ≡ true
    → (n : ℕ) × (o ≡ Some n) × (page_of n ≡ page)
on_some page None e = absurd (cc)
on_some page (Some n) e = (n, refl, eqb-true (page_of n) page e)

pub shown_on_some : (page : ℕ) (shown : Option Shown) → is_shown_on page shown ≡ true
    → (s : Shown) × (shown ≡ Some s) × (page_of s.place ≡ page)
shown_on_some page None e = absurd (cc)
shown_on_some page (Some s) e = (s, refl, eqb-true (page_of s.place) page e)

pub at_on : (shown : Option Shown) (n : ℕ) → is_shown_at shown n ≡ true
    → is_shown_on (page_of n) shown
    ≡ true
at_on None n e = absurd (cc)
at_on (Some s) n e = eq-eqb (page_of s.place) (page_of n) (ap page_of (eqb-true s.place n e))

pub hand_on : (o : Option ℕ) (n : ℕ) → is_number n o ≡ true → is_on (page_of n) o ≡ true
hand_on None n e = absurd (cc)
hand_on (Some m) n e = eq-eqb (page_of m) (page_of n) (ap page_of (eqb-true m n e))
