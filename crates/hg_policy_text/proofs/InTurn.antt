-- Going over a list, each element after the ones before it.
use Rattle.std.proofs.Common.{◌≡◌, ℕ, ◌+◌, ◌<◌, ◌≤◌, List, [], ◌∷◌, length, drop, get_or, map, Option, Some, None, Ok, refl, sym, ap, ◌∙◌}
use Rattle.std.proofs.lemmas.List.{drop_all, drop_more}
use Rattle.toml.specs.View.{items_view, view}
use Rattle.toml.specs.declared.value.Value.{Value}
use Rattle.hg_policy_text.specs.Faults.{Fault, Read, ◌>>=◌, in_turn, FailsAs}
use Rattle.hg_policy_text.specs.Values.{elements}

module _ {A X Y : Type 0} (step : A → Y → Read A) (f : X → Y) (done : A) (xs : List X) (i : ℕ) (total : Read A) (so_far : in_turn step done (map f (drop i xs)) ≡ total) where
  module _ (d : X) (within : i < length xs) where
    in_turn-here : (step done (f (get_or xs i d)) >>= λ next. in_turn step next (map f (drop (i + 1) xs))) ≡ total
    unfolding in_turn
    in_turn-here = ap (λ ys. in_turn step done (map f ys)) (sym (drop_more xs i d within)) ∙ so_far

    -- a step that is taken
    pub in_turn-more : (next : A) → step done (f (get_or xs i d)) ≡ Ok next → in_turn step next (map f (drop (i + 1) xs)) ≡ total
    in_turn-more next e = rw e at in_turn-here

    -- a step that isn't
    pub in_turn-stop : (o : Option Fault) → FailsAs o (step done (f (get_or xs i d))) → FailsAs o total
    in_turn-stop None e = tt
    in_turn-stop (Some x) e = sym (rw e at in_turn-here)

  -- past the last
  pub in_turn-end : length xs ≤ i → total ≡ Ok done
  unfolding in_turn
  in_turn-end past = sym (rw (drop_all i xs past) at so_far)

pub elements-view : (vs : List Value) → elements (items_view vs) ≡ map view vs
elements-view [] = refl
elements-view (v ∷ vs) = ap (λ ds. view v ∷ ds) (elements-view vs)
