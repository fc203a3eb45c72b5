-- Seats of many parts are joined and cut, and each cut keeps the life rule.
use Rattle.std.proofs.Common.{◌≡◌, ◌≢◌, ◌⊎◌, ℕ, zero, suc, ◌+◌, ◌<◌, List, [], ◌∷◌, ◌++◌, map, take, drop, length, set, sym, refl, ap, ◌∙◌, subst, inl, inr, ⊎_elim, arith}
use mathlib.Core.Option.{some, some-injective, some-ne-none}
use mathlib.Core.Logic.{dite}
use native.Mathlib.Decide.{ℕ_discrete}
use lib.ListN.{get_elem?}
use Rattle.atomic_table.specs.Table.{Splits, Joins}
use Rattle.atomic_table.proofs.Lists.{at_set, set_else, at_longer, at_last}
use Rattle.hg_table.specs.declared.view.Part.{Part}
use Rattle.hg_place.specs.declared.geometry.TheConstants.{SEGMENT_PLACES}
use Rattle.hg_table.specs.View.{View, seats_of, blank, part_of, first_records, later_records, giving}
use Rattle.hg_table.specs.LifeRule.{LifeRule}
use Rattle.hg_table.specs.Steps.{Cut, second_part, first_segment, nothing, kept_by, given_by, MayCut}
use Rattle.hg_table.proofs.Counted.{set_hit, seats_set, seats_more}
use Rattle.hg_table.proofs.Cuts.{reshaped, whole, keeps_itself, at_end, at_none, splits_one}
use Rattle.hg_table.proofs.Cuts.{first_from, later_from, cut_apart}

-- what stands in the one list or behind it in the other
at_both : (v w : View) (j : ℕ) (b : Part) → get_elem? (v ++ w) j ≡ some b → (get_elem? v j ≡ some b) ⊎ ((k : ℕ) × (j ≡ length v + k) × (get_elem? w k ≡ some b))
at_both [] w j b e = inr (j, omega arith, e)
at_both (x ∷ v) w zero b e = inl e
at_both (x ∷ v) w (suc j) b e = ⊎_elim inl (λ (t : (k : ℕ) × (j ≡ length v + k) × (get_elem? w k ≡ some b)). inr (t.0, omega (arith, t.1), t.2)) (at_both v w j b e)

at_right : (v w : View) (j : ℕ) (b : Part) → get_elem? w j ≡ some b → get_elem? (v ++ w) (length v + j) ≡ some b
at_right [] w j b e =
    let is : j ≡ 0 + j = omega arith in
    subst (λ (z : ℕ). get_elem? w z ≡ some b) is e
at_right (x ∷ v) w j b e =
    let there : get_elem? (x ∷ v ++ w) (suc (length v + j)) ≡ some b = at_right v w j b e in
    let is : suc (length v + j) ≡ suc (length v) + j = omega arith in
    subst (λ (z : ℕ). get_elem? (x ∷ v ++ w) z ≡ some b) is there

there_within : (v : View) (j : ℕ) (b : Part) → get_elem? v j ≡ some b → j < length v
there_within [] j b e = absurd (some-ne-none b (sym e))
there_within (x ∷ v) zero b e = omega arith
there_within (x ∷ v) (suc j) b e = let l = there_within v j b e in omega (arith, l)

seats_both : (v w : View) → seats_of (v ++ w) ≡ seats_of v + seats_of w
seats_both [] w = omega arith
seats_both (x ∷ v) w = let l = seats_both v w in omega (arith, l)

-- a seat takes in all that another has
module _ (n id other : ℕ) (v w : View) where
  pub joins_all : Joins (LifeRule n) id v other w (v ++ w) []
  joins_all s r at differ at' =
      let one : List View = set s.views id (v ++ w) in let views' : List View = set one other [] in
      let theirs : get_elem? s.views other ≡ some w = sym (set_else s.views id other (v ++ w) differ) ∙ at' in
      let now : get_elem? views' id ≡ some (v ++ w) = set_else one other id [] (λ e. differ (sym e)) ∙ set_hit s.views id v (v ++ w) at in
      let Left : ℕ → ℕ → ℕ → ℕ → Part → Type 0 = λ i0 j0 i j b. (i0 ≡ id) × (i ≡ id) × (j ≡ j0) in
      let Right : ℕ → ℕ → ℕ → ℕ → Part → Type 0 = λ i0 j0 i j b. (i0 ≡ other) × (i ≡ id) × (j ≡ length v + j0) in
      let Other : ℕ → ℕ → ℕ → ℕ → Part → Type 0 = λ i0 j0 i j b. ((i0 ≢ id) × (i0 ≢ other)) × (i ≡ i0) × (j ≡ j0) in
      let W : ℕ → ℕ → ℕ → ℕ → Part → Type 0 = λ i0 j0 i j b. Left i0 j0 i j b ⊎ (Right i0 j0 i j b ⊎ Other i0 j0 i j b) in
      reshaped n s r views' W
      (λ i j b has. ⊎_elim
      (λ (t : (i ≡ other) × ([] ≡ has.0)). absurd (at_none b j has.0 t.1 has.2))
      (λ (u : (i ≢ other) × (get_elem? one i ≡ some has.0)). ⊎_elim
      (λ (t : (i ≡ id) × ((v ++ w) ≡ has.0)). ⊎_elim
      (λ (e : get_elem? v j ≡ some b). (id, j, b, (v, at, e), whole b, inl (refl, t.0, refl)))
      (λ (o : (k : ℕ) × (j ≡ length v + k) × (get_elem? w k ≡ some b)). (other, o.0, b, (w, theirs, o.2), whole b, inr (inl (refl, t.0, o.1))))
      (at_both v w j b (subst (λ (z : View). get_elem? z j ≡ some b) (sym t.1) has.2)))
      (λ (t : (i ≢ id) × (get_elem? s.views i ≡ some has.0)). (i, j, b, (has.0, t.1, has.2), whole b, inr (inr ((t.0, u.0), refl, refl)))) (at_set s.views id i (v ++ w) has.0 u.1))
      (at_set one other i [] has.0 has.1))
      (λ i0 j0 i j i' j' b c w0 w' not. ⊎_elim
      (λ (t : Left i0 j0 i j b). ⊎_elim
      (λ (t' : Left i0 j0 i' j' c). (t.1 ∙ sym t'.1, t.2 ∙ sym t'.2))
      (⊎_elim (λ (t' : Right i0 j0 i' j' c). absurd (differ (sym t'.0 ∙ t.0))) (λ (t' : Other i0 j0 i' j' c). absurd (t'.0.0 t.0))) w')
      (⊎_elim
      (λ (t : Right i0 j0 i j b). ⊎_elim
      (λ (t' : Left i0 j0 i' j' c). absurd (differ (sym t.0 ∙ t'.0)))
      (⊎_elim (λ (t' : Right i0 j0 i' j' c). (t.1 ∙ sym t'.1, t.2 ∙ sym t'.2)) (λ (t' : Other i0 j0 i' j' c). absurd (t'.0.1 t.0))) w')
      (λ (t : Other i0 j0 i j b). ⊎_elim
      (λ (t' : Left i0 j0 i' j' c). absurd (t.0.0 t'.0))
      (⊎_elim (λ (t' : Right i0 j0 i' j' c). absurd (t.0.1 t'.0)) (λ (t' : Other i0 j0 i' j' c). (t.1 ∙ sym t'.1, t.2 ∙ sym t'.2))) w'))
      w0)
      (λ i j b has. dite (ℕ_discrete i id)
      (λ (is : i ≡ id). let mine : get_elem? v j ≡ some b = subst (λ (z : View). get_elem? z j ≡ some b) (some-injective has.0 v (sym has.1 ∙ (ap (get_elem? s.views) is ∙ at))) has.2 in
      (id, j, b, (v ++ w, now, at_longer v w j b mine), keeps_itself b))
      (λ (not : i ≢ id). dite (ℕ_discrete i other)
      (λ (is : i ≡ other). let mine : get_elem? w j ≡ some b = subst (λ (z : View). get_elem? z j ≡ some b) (some-injective has.0 w (sym has.1 ∙ (ap (get_elem? s.views) is ∙ theirs))) has.2 in
      (id, length v + j, b, (v ++ w, now, at_right v w j b mine), keeps_itself b))
      (λ (far : i ≢ other). (i, j, b, (has.0, set_else one other i [] far ∙ (set_else s.views id i (v ++ w) not ∙ has.1), has.2), keeps_itself b))))
      (let put = seats_set s.views id v (v ++ w) at in let out = seats_set one other w [] at' in let both = seats_both v w in omega arith)

-- those in front stay with the seat, and the others go to a new one
module _ (n id : ℕ) (v w : View) where
  pub splits_all : Splits (LifeRule n) id (v ++ w) v w
  splits_all s r at =
      let one : List View = set s.views id v in let views' : List View = one ++ w ∷ [] in
      let Left : ℕ → ℕ → ℕ → ℕ → Part → Type 0 = λ i0 j0 i j b. (i0 ≡ id) × (i ≡ id) × (j ≡ j0) × (j < length v) in
      let Right : ℕ → ℕ → ℕ → ℕ → Part → Type 0 = λ i0 j0 i j b. (i0 ≡ id) × (i ≡ length one) × (j0 ≡ length v + j) in
      let Other : ℕ → ℕ → ℕ → ℕ → Part → Type 0 = λ i0 j0 i j b. (i0 ≢ id) × (i ≡ i0) × (j ≡ j0) in
      let W : ℕ → ℕ → ℕ → ℕ → Part → Type 0 = λ i0 j0 i j b. Left i0 j0 i j b ⊎ (Right i0 j0 i j b ⊎ Other i0 j0 i j b) in
      reshaped n s r views' W
      (λ i j b has. ⊎_elim
      (λ (e : get_elem? one i ≡ some has.0). ⊎_elim
      (λ (t : (i ≡ id) × (v ≡ has.0)). let mine : get_elem? v j ≡ some b = subst (λ (z : View). get_elem? z j ≡ some b) (sym t.1) has.2 in
      (id, j, b, (v ++ w, at, at_longer v w j b mine), whole b, inl (refl, t.0, refl, there_within v j b mine)))
      (λ (t : (i ≢ id) × (get_elem? s.views i ≡ some has.0)). (i, j, b, (has.0, t.1, has.2), whole b, inr (inr (t.0, refl, refl)))) (at_set s.views id i v has.0 e))
      (λ (t : (i ≡ length one) × (w ≡ has.0)). let mine : get_elem? w j ≡ some b = subst (λ (z : View). get_elem? z j ≡ some b) (sym t.1) has.2 in
      (id, length v + j, b, (v ++ w, at, at_right v w j b mine), whole b, inr (inl (refl, t.0, refl))))
      (at_end one w has.0 i has.1))
      (λ i0 j0 i j i' j' b c w0 w' not. ⊎_elim
      (λ (t : Left i0 j0 i j b). ⊎_elim
      (λ (t' : Left i0 j0 i' j' c). (t.1 ∙ sym t'.1, t.2 ∙ sym t'.2))
      (⊎_elim (λ (t' : Right i0 j0 i' j' c). absurd (omega (arith, t.2, t.3, t'.2))) (λ (t' : Other i0 j0 i' j' c). absurd (t'.0 t.0))) w')
      (⊎_elim
      (λ (t : Right i0 j0 i j b). ⊎_elim
      (λ (t' : Left i0 j0 i' j' c). absurd (omega (arith, t.2, t'.2, t'.3)))
      (⊎_elim (λ (t' : Right i0 j0 i' j' c). (t.1 ∙ sym t'.1, omega (arith, t.2, t'.2))) (λ (t' : Other i0 j0 i' j' c). absurd (t'.0 t.0))) w')
      (λ (t : Other i0 j0 i j b). ⊎_elim
      (λ (t' : Left i0 j0 i' j' c). absurd (t.0 t'.0))
      (⊎_elim (λ (t' : Right i0 j0 i' j' c). absurd (t.0 t'.0)) (λ (t' : Other i0 j0 i' j' c). (t.1 ∙ sym t'.1, t.2 ∙ sym t'.2))) w'))
      w0)
      (λ i j b has. dite (ℕ_discrete i id)
      (λ (is : i ≡ id). let mine : get_elem? (v ++ w) j ≡ some b = subst (λ (z : View). get_elem? z j ≡ some b) (some-injective has.0 (v ++ w) (sym has.1 ∙ (ap (get_elem? s.views) is ∙ at))) has.2 in ⊎_elim
      (λ (e : get_elem? v j ≡ some b). (id, j, b, (v, at_longer one (w ∷ []) id v (set_hit s.views id (v ++ w) v at), e), keeps_itself b))
      (λ (o : (k : ℕ) × (j ≡ length v + k) × (get_elem? w k ≡ some b)). (length one, o.0, b, (w, at_last one w (length one) refl, o.2), keeps_itself b)) (at_both v w j b mine))
      (λ (not : i ≢ id). (i, j, b, (has.0, at_longer one (w ∷ []) i has.0 (set_else s.views id i v not ∙ has.1), has.2), keeps_itself b)))
      (let put = seats_set s.views id (v ++ w) v at in let more = seats_more one w in let both = seats_both v w in omega arith)

-- each cut of a view
pub cuts : (n id : ℕ) (cut : Cut) (view : View) → MayCut cut view → Splits (LifeRule n) id view (kept_by cut view) (given_by cut view)
cuts n id second_part view may s r at =
    subst (λ (z : View). Splits (LifeRule n) id z (take 1 z) (drop 1 z)) (sym may.2)
    (splits_all n id (may.0 ∷ []) (may.1 ∷ [])) s r at
cuts n id first_segment view may s r at = let a : Part = part_of view in let size : ℕ = SEGMENT_PLACES in let some_left = may.1 in
    subst (λ (z : View). Splits (LifeRule n) id z (map (later_records size) z) (map (first_records size) z)) (sym may.0)
    (splits_one n id a (later_records size a) (first_records size a) (later_from size a) (first_from size a) (cut_apart size a)
    record { seen = λ k p w e. (k, e); ended = λ k p g e. (k, e) } (omega arith)) s r at
cuts n id nothing view may s r at = let a : Part = part_of view in let some_left = may.1 in
    subst (λ (z : View). Splits (LifeRule n) id z (map giving z) (blank ∷ [])) (sym may.0)
    (splits_one n id a (giving a) blank
    record { seen = λ k p w e. (k, e); ended = λ k p g e. (k, e); recorded = λ k l. (k, l, refl, refl) }
    record { seen = λ k p w e. absurd (some-ne-none (p, w) (sym e)); ended = λ k p g e. absurd (some-ne-none (p, g) (sym e)); recorded = λ k l. absurd (omega arith) }
    record { ended = λ k l p g e f. some-ne-none (p, g) (sym f); records = λ k l lk ll e. absurd (omega arith) }
    record { seen = λ k p w e. (k, e); ended = λ k p g e. (k, e) } (omega arith)) s r at
