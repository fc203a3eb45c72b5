-- An empty hand, by the place in it.
use Rattle.std.proofs.Common.{◌≡◌, true, false, Option, None, Some, is_some, option_map, refl, sym, ap, ◌∙◌}
use Rattle.std.proofs.lemmas.Bool.{false≢true}
use Rattle.hg_place.specs.declared.Handle.{Handle}
use Rattle.hg_place.specs.declared.Place.{Place}

abbrev place_in : Option Handle → Option Place
place_in = option_map (λ handle. handle.place)

pub no_hand :
    (hand : Option Handle) (place : Option Place) → place ≡ place_in hand → is_some place ≡ false
    → hand ≡ None
no_hand None place told empty = refl
no_hand (Some handle) place told empty = absurd (false≢true (sym empty ∙ ap is_some told))

pub some_hand :
    (hand : Option Handle) (place : Option Place) → place ≡ place_in hand → is_some place ≡ true
    → hand ≡ None → ⊥
some_hand hand place told full none =
    false≢true (sym (ap is_some (told ∙ ap place_in none)) ∙ full)
