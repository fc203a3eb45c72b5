-- The first name that is looked for.
use Rattle.std.proofs.Common.{◌≡◌, ℕ, ◌+◌, ◌<◌, Bool, true, false, List, ◌∷◌, Some, length, get_or, drop, find, map, refl, sym, ◌∙◌, Bor}
use Rattle.std.proofs.lemmas.List.{at_drop_more}

abbrev pub texts : List (Bor (List ℕ)) → List (List ℕ)
texts names = map (λ name. name.now) names

module _ (p : List ℕ → Bool) (names : List (Bor (List ℕ))) (i : ℕ) where
  fails_here : (name : Bor (List ℕ)) → p name.now ≡ false → find p (texts (name ∷ drop (i + 1) names)) ≡ find p (texts (drop (i + 1) names))
  fails_here name fails = rw fails refl

  passes_here : (name : Bor (List ℕ)) → p name.now ≡ true → find p (texts (name ∷ drop (i + 1) names)) ≡ Some name.now
  passes_here name passes = rw passes refl

  -- a name that isn't the one is passed over, and one that is is found
  pub find_later : (d : Bor (List ℕ)) → i < length names → p (get_or names i d).now ≡ false
      → find p (texts (drop (i + 1) names)) ≡ find p (texts (drop i names))
  find_later d within fails = sym (at_drop_more (λ ns. find p (texts ns)) names i d within ∙ fails_here (get_or names i d) fails)

  pub find_here : (d : Bor (List ℕ)) → i < length names → p (get_or names i d).now ≡ true
      → Some (get_or names i d).now ≡ find p (texts (drop i names))
  find_here d within passes = sym (at_drop_more (λ ns. find p (texts ns)) names i d within ∙ passes_here (get_or names i d) passes)
