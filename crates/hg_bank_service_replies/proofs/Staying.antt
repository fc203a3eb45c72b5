-- Why a bank worker stays.
use Rattle.std.proofs.Common.{◌≡◌, Bool, true, false, T, Option, None, Some, MatchOption, is_some, option_map, refl, sym, subst, ap, ◌∙◌}
use Rattle.hg_place.specs.declared.Handle.{Handle}
use Rattle.hg_place.specs.declared.Place.{Place}

both_ways : {X : Type 0} {b : Bool} → b ≡ true → b ≡ false → X
both_ways is isnt = absurd (subst T (sym is ∙ isnt) tt)

abbrev place_in : Option Handle → Option Place
place_in = option_map (λ handle. handle.place)

-- a block is in hand
pub by_hand : (No : Type 0) (Is : Handle → Type 0) (hand : Option Handle) (place : Option Place) → place ≡ place_in hand → is_some place ≡ true → ((handle : Handle) → Is handle) → MatchOption hand No Is
by_hand No Is None place told is said = both_ways is (ap is_some told)
by_hand No Is (Some handle) place told is said = said handle

-- nothing is
pub by_none : (No : Type 0) (Is : Handle → Type 0) (hand : Option Handle) (place : Option Place) → place ≡ place_in hand → is_some place ≡ false → No → MatchOption hand No Is
by_none No Is None place told isnt said = said
by_none No Is (Some handle) place told isnt said = both_ways (ap is_some told) isnt

pub has_none : (hand : Option Handle) (place : Option Place) → place ≡ place_in hand → is_some place ≡ false → hand ≡ None
has_none None place told isnt = refl
has_none (Some handle) place told isnt = both_ways (ap is_some told) isnt
