-- Which pages have a place on the delayed list.
use Rattle.std.proofs.Common.{◌≡◌, ◌≢◌, ℕ, ◌==◌, ◌||◌, Bool, true, false, nat_eq, List, [], ◌∷◌, map, refl, sym, ap, ◌∙◌, inl, inr}
use Rattle.std.specs.List.{list_any}
use Rattle.std.proofs.lemmas.Bool.{cases_eq}
use Rattle.hg_place.specs.Places.{page_of}
use Rattle.hg_lists.specs.Repeats.{Lacks}
use Rattle.hg_lists.proofs.RepeatsLemmas.{nat_eq-same, nat_eq-other}

-- a place of the page stands on the list
abbrev pub has_of : List ℕ → ℕ → Bool
has_of places page = list_any (λ place. page_of place == page) places

pub has_of-same : (place page : ℕ) (places : List ℕ) → page_of place ≡ page → has_of (place ∷ places) page ≡ true
has_of-same place page places e = ap (λ (b : Bool). b || has_of places page) (ap (λ (n : ℕ). nat_eq n page) e ∙ nat_eq-same page)

pub has_of-other : (place page : ℕ) (places : List ℕ) → page_of place ≢ page → has_of (place ∷ places) page ≡ has_of places page
has_of-other place page places ne = ap (λ (b : Bool). b || has_of places page) (nat_eq-other (page_of place) page ne)

pub lacks_page : (page : ℕ) (places : List ℕ) → has_of places page ≡ false → Lacks page (map page_of places)
lacks_page page [] e = tt
lacks_page page (x ∷ xs) e = elim (cases_eq (page_of x) page) [
  | inl s ↦ (let on : has_of (x ∷ xs) page ≡ true = has_of-same x page xs s in cc)
  | inr ne ↦ ((λ s. ne (sym s)), lacks_page page xs (sym (has_of-other x page xs ne) ∙ e))
]

pub has_of-lacks : (page : ℕ) (places : List ℕ) → Lacks page (map page_of places) → has_of places page ≡ false
has_of-lacks page [] l = refl
has_of-lacks page (x ∷ xs) l = has_of-other x page xs (λ e. l.0 (sym e)) ∙ has_of-lacks page xs l.1

-- the flag of a page after a place of it goes on the list, and after its only one comes off
pub has_of_any : (places : List ℕ) (page : ℕ) → has_of places page ≡ true → places ≢ []
has_of_any [] page e s = cc
has_of_any (x ∷ xs) page e s = cc
