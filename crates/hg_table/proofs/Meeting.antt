-- Two seats are joined, look once, and part again.
use Rattle.std.proofs.Common.{◌≡◌, ◌≢◌, ℕ, List, [], ◌∷◌, ◌++◌, map, take, drop, sym, refl, ap, ◌∙◌, subst, arith}
use mathlib.Core.Option.{some}
use lib.ListN.{get_elem?}
use Rattle.hg_table.specs.declared.view.Part.{Part}
use Rattle.hg_table.specs.View.{View, saw, part_of}
use Rattle.hg_table.specs.Told.{IsShownTo, AreApart}
use Rattle.hg_table.specs.Seats.{HasStepped, HaveMet, part_of_first}
use Rattle.hg_table.proofs.Told.{not_ended}

two : (v w joined : View) → v ≡ part_of v ∷ [] → w ≡ part_of w ∷ [] → joined ≡ v ++ w → joined ≡ part_of v ∷ part_of w ∷ []
two v w joined one one' is = is ∙ (λ i. one i ++ one' i)

module _ (p x : ℕ) (v w joined after : View) (one : v ≡ part_of v ∷ []) (one' : w ≡ part_of w ∷ []) (is : joined ≡ v ++ w) (looked : after ≡ map (saw p x) joined)
    (apart : (j k : ℕ) (a b : Part) → get_elem? joined j ≡ some a → get_elem? joined k ≡ some b → j ≢ k → AreApart a b) where
  pub after_is : after ≡ saw p x (part_of v) ∷ saw p x (part_of w) ∷ []
  after_is = looked ∙ ap (map (saw p x)) (two v w joined one one' is)

  pub were_apart : AreApart (part_of v) (part_of w)
  were_apart = let e = two v w joined one one' is in apart 0 1 (part_of v) (part_of w) (ap (λ (z : View). get_elem? z 0) e) (ap (λ (z : View). get_elem? z 1) e) (λ z. omega arith)

  pub still_apart : AreApart (saw p x (part_of v)) (saw p x (part_of w))
  still_apart = record { ended = were_apart.ended; records = were_apart.records }

  module _ (left right : View) (shown : IsShownTo p x joined) (l : left ≡ take 1 after) (r : right ≡ drop 1 after) where
    pub left_is : left ≡ saw p x (part_of v) ∷ []
    left_is = l ∙ ap (λ (z : View). take 1 z) after_is

    pub right_is : right ≡ saw p x (part_of w) ∷ []
    right_is = r ∙ ap (λ (z : View). drop 1 z) after_is

    pub they_met : HaveMet p x (part_of v) (part_of w) (part_of left) (part_of right)
    they_met = let e = two v w joined one one' is in record {
      shown = shown 0 (part_of v) (ap (λ (z : View). get_elem? z 0) e);
      shown_other = shown 1 (part_of w) (ap (λ (z : View). get_elem? z 1) e);
      apart = were_apart;
      step = subst (HasStepped (part_of v) p x x) (sym (ap part_of left_is)) (refl, refl, sym (not_ended p x x (part_of v).ended (λ e. e)));
      step_other = subst (HasStepped (part_of w) p x x) (sym (ap part_of right_is)) (refl, refl, sym (not_ended p x x (part_of w).ended (λ e. e)));
    }

-- the same where the other seat lies in a badge
pub met_of : (p x : ℕ) (v w joined after left : View) (views views' : List View) (right : View) → v ≡ part_of v ∷ [] → (w ≡ part_of w ∷ []) × (part_of w ≡ part_of_first views) → joined ≡ v ++ w
    → after ≡ map (saw p x) joined → ((j k : ℕ) (a b : Part) → get_elem? joined j ≡ some a → get_elem? joined k ≡ some b → j ≢ k → AreApart a b) → IsShownTo p x joined → left ≡ take 1 after → right ≡ drop 1 after
    → views' ≡ right ∷ [] → HaveMet p x (part_of v) (part_of_first views) (part_of left) (part_of_first views')
met_of p x v w joined after left views views' right one out is looked apart shown l r back =
    subst (λ (z : Part × Part). HaveMet p x (part_of v) z.0 (part_of left) z.1) (λ i. (out.1 i, sym (ap part_of_first back) i))
    (they_met p x v w joined after one out.0 is looked apart left right shown l r)

-- the same where both lie in badges
pub both_met_of : (p x : ℕ) (mine theirs : List View) (v w joined after left right : View) (mine' theirs' : List View) → (v ≡ part_of v ∷ []) × (part_of v ≡ part_of_first mine)
    → (w ≡ part_of w ∷ []) × (part_of w ≡ part_of_first theirs) → joined ≡ v ++ w
    → after ≡ map (saw p x) joined → ((j k : ℕ) (a b : Part) → get_elem? joined j ≡ some a → get_elem? joined k ≡ some b → j ≢ k → AreApart a b) → IsShownTo p x joined → left ≡ take 1 after → right ≡ drop 1 after
    → mine' ≡ left ∷ [] → theirs' ≡ right ∷ [] → HaveMet p x (part_of_first mine) (part_of_first theirs) (part_of_first mine') (part_of_first theirs')
both_met_of p x mine theirs v w joined after left right mine' theirs' out out' is looked apart shown l r back back' =
    subst (λ (z : Part × Part). HaveMet p x z.0 (part_of_first theirs) z.1 (part_of_first theirs')) (λ i. (out.1 i, sym (ap part_of_first back) i))
    (met_of p x v w joined after left theirs theirs' right out.0 out' is looked apart shown l r back')
