-- What a change of seats owes so that the life rule stays, and how a seat of one part is cut in two.
use Rattle.std.proofs.Common.{◌≡◌, ◌≢◌, ◌⊎◌, ℕ, zero, suc, ◌+◌, ◌<◌, List, [], ◌∷◌, ◌++◌, length, get_or, set, sym, refl, ap, ◌∙◌, subst, inl, inr, ⊎_elim, arith, length-take, length-drop, get_or-take, get_or-drop}
use mathlib.Core.Option.{some, some-injective, some-ne-none}
use mathlib.Core.Logic.{dite}
use native.Mathlib.Decide.{ℕ_discrete}
use lib.ListN.{get_elem?}
use Rattle.atomic_table.specs.Table.{Splits, Joins}
use Rattle.atomic_table.proofs.Lists.{at_set, set_else, at_longer, at_last}
use Rattle.hg_place.specs.declared.standing.Standing.{Standing}
use Rattle.hg_place.specs.declared.standing.Standing.TheVariants.{Home}
use Rattle.hg_place.specs.Standings.{standing_at, Fits}
use Rattle.hg_table.specs.declared.view.Part.{Part}
use Rattle.hg_table.specs.View.{View, Table, Has, seats_of, all_seats, first_records, later_records}
use Rattle.hg_table.specs.LifeRule.{LifeRule}
use Rattle.hg_table.specs.Told.{AreApart}
use Rattle.hg_table.proofs.Knowing.{Knows, known}
use Rattle.hg_table.proofs.Counted.{set_hit, seats_set, seats_more}

-- b knows no more than a, and its records are records of a
pub record From (a b : Part) : Type 0 where
  pub seen : (k p w : ℕ) → get_elem? b.seen k ≡ some (p, w) → (l : ℕ) × (get_elem? a.seen l ≡ some (p, w))
  pub ended : (k p g : ℕ) → get_elem? b.ended k ≡ some (p, g) → (l : ℕ) × (get_elem? a.ended l ≡ some (p, g))
  pub recorded : (k : ℕ) → k < length b.records → (l : ℕ) × (l < length a.records) × (a.first + l ≡ b.first + k) × (standing_at b.records k ≡ standing_at a.records l)

pub whole : (a : Part) → From a a
whole a = record { seen = λ k p w e. (k, e); ended = λ k p g e. (k, e); recorded = λ k l. (k, l, refl, refl) }

knows_less : (ws : List ℕ) (a b : Part) → From a b → Knows ws a → Knows ws b
knows_less ws a b f k = record {
  seen = λ n p w e. let t = f.seen n p w e in k.seen t.0 p w t.1;
  ended = λ n p g e. let t = f.ended n p g e in k.ended t.0 p g t.1;
  recorded = λ n l. let t = f.recorded n l in subst (λ (x : Standing). Fits x (get_or ws (b.first + n) 0)) (sym t.3) (subst (λ (x : ℕ). Fits (standing_at a.records t.0) (get_or ws x 0)) t.2 (k.recorded t.0 t.1));
}

-- all that a part has seen and ended some part has
pub record Keeps (a b : Part) : Type 0 where
  pub seen : (k p w : ℕ) → get_elem? a.seen k ≡ some (p, w) → (l : ℕ) × (get_elem? b.seen l ≡ some (p, w))
  pub ended : (k p g : ℕ) → get_elem? a.ended k ≡ some (p, g) → (l : ℕ) × (get_elem? b.ended l ≡ some (p, g))

pub keeps_itself : (a : Part) → Keeps a a
keeps_itself a = record { seen = λ k p w e. (k, e); ended = λ k p g e. (k, e) }

abbrev pub Stands : List View → Part → Type 0
Stands views a = (i : ℕ) × (j : ℕ) × (b : Part) × Has views i j b × Keeps a b

-- W i0 j0 i j b says how the part b, which stands at i, j now, came from one that stood at i0, j0
module _ (n : ℕ) (s : Table) (r : LifeRule n s) (views' : List View) (W : ℕ → ℕ → ℕ → ℕ → Part → Type 0)
    (cases : (i j : ℕ) (b : Part) → Has views' i j b → (i0 : ℕ) × (j0 : ℕ) × (a : Part) × Has s.views i0 j0 a × From a b × W i0 j0 i j b)
    (unique : (i0 j0 i j i' j' : ℕ) (a b : Part) → W i0 j0 i j a → W i0 j0 i' j' b → (¬ AreApart a b) → (i ≡ i') × (j ≡ j'))
    (onward : (i j : ℕ) (a : Part) → Has s.views i j a → Stands views' a) (counted : all_seats views' ≡ all_seats s.views) where
  still_known : (i j : ℕ) (b : Part) → Has views' i j b → Knows s.words b
  still_known i j b has = let o = cases i j b has in knows_less s.words o.2 b o.4 (known n s r o.0 o.1 o.2 o.3)

  pub reshaped : LifeRule n record { words = s.words; homes = s.homes; views = views' }
  reshaped = record {
    words_are_seen = λ q there. let x = r.words_are_seen q there in let t = onward x.0 x.1 x.3 x.4 in let l = t.4.seen x.2 q (get_or s.words q 0) x.5 in (t.0, t.1, l.0, t.2, t.3, l.1);
    over_is_ended = λ q g one over. let x = r.over_is_ended q g one over in let t = onward x.0 x.1 x.3 x.4 in let l = t.4.ended x.2 q g x.5 in (t.0, t.1, l.0, t.2, t.3, l.1);
    seats = counted ∙ r.seats;
    all_words = r.all_words;
    spare = r.spare;
    well_formed = r.well_formed;
    seen_is_past = λ i j b has. (still_known i j b has).seen;
    ended_is_over = λ i j b has. (still_known i j b has).ended;
    records_are_true = λ i j b has. (still_known i j b has).recorded;
    ended_once = λ i j k i' j' k' p g a b ha hb ea eb. let o = cases i j a ha in let o' = cases i' j' b hb in let t = o.4.ended k p g ea in let t' = o'.4.ended k' p g eb in
        let e = r.ended_once o.0 o.1 t.0 o'.0 o'.1 t'.0 p g o.2 o'.2 o.3 o'.3 t.1 t'.1 in
        unique o.0 o.1 i j i' j' a b o.5 (subst (λ (z : ℕ × ℕ). W z.0 z.1 i' j' b) (λ i. (sym e.0 i, sym e.1 i)) o'.5) (λ apart. apart.ended k k' p g ea eb);
    one_view = λ i j k i' j' k' a b ha hb la lb e. let o = cases i j a ha in let o' = cases i' j' b hb in let t = o.4.recorded k la in let t' = o'.4.recorded k' lb in
        let f = r.one_view o.0 o.1 t.0 o'.0 o'.1 t'.0 o.2 o'.2 o.3 o'.3 t.1 t'.1 (t.2 ∙ (e ∙ sym t'.2)) in
        unique o.0 o.1 i j i' j' a b o.5 (subst (λ (z : ℕ × ℕ). W z.0 z.1 i' j' b) (λ i. (sym f.0 i, sym f.1 i)) o'.5) (λ apart. apart.records k k' la lb e);
  }

pub at_end : {A : Type 0} (l : List A) (a b : A) (j : ℕ) → get_elem? (l ++ a ∷ []) j ≡ some b → (get_elem? l j ≡ some b) ⊎ ((j ≡ length l) × (a ≡ b))
at_end [] a b zero e = inr (refl, some-injective a b e)
at_end [] a b (suc j) e = absurd (some-ne-none b (sym e))
at_end (x ∷ xs) a b zero e = inl e
at_end (x ∷ xs) a b (suc j) e = ⊎_elim inl (λ (t : (j ≡ length xs) × (a ≡ b)). inr (ap suc t.0, t.1)) (at_end xs a b j e)

pub at_one : {A : Type 0} (a b : A) (j : ℕ) → get_elem? (a ∷ []) j ≡ some b → (j ≡ 0) × (a ≡ b)
at_one a b zero e = (refl, some-injective a b e)
at_one a b (suc j) e = absurd (some-ne-none b (sym e))

apart_flips : (a b : Part) → AreApart a b → AreApart b a
apart_flips a b x = record { ended = λ k l p g e f. x.ended l k p g f e; records = λ k l m m' e. x.records l k m' m (sym e) }

-- a seat of one part is cut in two of one part each, of which the first keeps all that it knows
module _ (n id : ℕ) (a x y : Part) (fx : From a x) (fy : From a y) (apart : AreApart x y) (keeps : Keeps a x) (shared : 1 + a.may_give ≡ (1 + x.may_give) + (1 + y.may_give)) where
  pub splits_one : Splits (LifeRule n) id (a ∷ []) (x ∷ []) (y ∷ [])
  splits_one s r at =
      let one : List View = set s.views id (x ∷ []) in let views' : List View = one ++ (y ∷ []) ∷ [] in
      let Left : ℕ → ℕ → ℕ → ℕ → Part → Type 0 = λ i0 j0 i j b. (i0 ≡ id) × (i ≡ id) × (j ≡ 0) × (x ≡ b) in
      let Right : ℕ → ℕ → ℕ → ℕ → Part → Type 0 = λ i0 j0 i j b. (i0 ≡ id) × (i ≡ length one) × (j ≡ 0) × (y ≡ b) in
      let Other : ℕ → ℕ → ℕ → ℕ → Part → Type 0 = λ i0 j0 i j b. (i0 ≢ id) × (i ≡ i0) × (j ≡ j0) in
      let W : ℕ → ℕ → ℕ → ℕ → Part → Type 0 = λ i0 j0 i j b. Left i0 j0 i j b ⊎ (Right i0 j0 i j b ⊎ Other i0 j0 i j b) in
      let both : (b c : Part) → x ≡ b → y ≡ c → AreApart b c = λ b c e f. subst (λ (z : Part). AreApart z c) e (subst (AreApart x) f apart) in
      reshaped n s r views' W
      (λ i j b has. ⊎_elim
      (λ (e : get_elem? one i ≡ some has.0). ⊎_elim
      (λ (t : (i ≡ id) × ((x ∷ []) ≡ has.0)). let o = at_one x b j (subst (λ (z : View). get_elem? z j ≡ some b) (sym t.1) has.2) in
      (id, 0, a, (a ∷ [], at, refl), subst (From a) o.1 fx, inl (refl, t.0, o.0, o.1)))
      (λ (t : (i ≢ id) × (get_elem? s.views i ≡ some has.0)). (i, j, b, (has.0, t.1, has.2), whole b, inr (inr (t.0, refl, refl)))) (at_set s.views id i (x ∷ []) has.0 e))
      (λ (t : (i ≡ length one) × ((y ∷ []) ≡ has.0)). let o = at_one y b j (subst (λ (z : View). get_elem? z j ≡ some b) (sym t.1) has.2) in
      (id, 0, a, (a ∷ [], at, refl), subst (From a) o.1 fy, inr (inl (refl, t.0, o.0, o.1))))
      (at_end one (y ∷ []) has.0 i has.1))
      (λ i0 j0 i j i' j' b c w w' not. ⊎_elim
      (λ (t : Left i0 j0 i j b). ⊎_elim
      (λ (t' : Left i0 j0 i' j' c). (t.1 ∙ sym t'.1, t.2 ∙ sym t'.2))
      (⊎_elim (λ (t' : Right i0 j0 i' j' c). absurd (not (both b c t.3 t'.3))) (λ (t' : Other i0 j0 i' j' c). absurd (t'.0 t.0))) w')
      (⊎_elim
      (λ (t : Right i0 j0 i j b). ⊎_elim
      (λ (t' : Left i0 j0 i' j' c). absurd (not (apart_flips c b (both c b t'.3 t.3))))
      (⊎_elim (λ (t' : Right i0 j0 i' j' c). (t.1 ∙ sym t'.1, t.2 ∙ sym t'.2)) (λ (t' : Other i0 j0 i' j' c). absurd (t'.0 t.0))) w')
      (λ (t : Other i0 j0 i j b). ⊎_elim
      (λ (t' : Left i0 j0 i' j' c). absurd (t.0 t'.0))
      (⊎_elim (λ (t' : Right i0 j0 i' j' c). absurd (t.0 t'.0)) (λ (t' : Other i0 j0 i' j' c). (t.1 ∙ sym t'.1, t.2 ∙ sym t'.2))) w'))
      w)
      (λ i j b has. dite (ℕ_discrete i id)
      (λ (is : i ≡ id). let mine : get_elem? (a ∷ []) j ≡ some b = subst (λ (z : View). get_elem? z j ≡ some b) (some-injective has.0 (a ∷ []) (sym has.1 ∙ (ap (get_elem? s.views) is ∙ at))) has.2 in
      (id, 0, x, (x ∷ [], at_longer one ((y ∷ []) ∷ []) id (x ∷ []) (set_hit s.views id (a ∷ []) (x ∷ []) at), refl), subst (λ (z : Part). Keeps z x) (at_one a b j mine).1 keeps))
      (λ (not : i ≢ id). (i, j, b, (has.0, at_longer one ((y ∷ []) ∷ []) i has.0 (set_else s.views id i (x ∷ []) not ∙ has.1), has.2), keeps_itself b)))
      (let put = seats_set s.views id (a ∷ []) (x ∷ []) at in let more = seats_more one (y ∷ []) in omega (arith, shared))

pub at_none : (b : Part) (j : ℕ) (v : View) → [] ≡ v → get_elem? v j ≡ some b → ⊥
at_none b j v is e = some-ne-none b (sym (subst (λ (z : View). get_elem? z j ≡ some b) (sym is) e))

-- the parts of one view are apart
pub are_apart : (n : ℕ) (s : Table) → LifeRule n s → (id : ℕ) (view : View) → get_elem? s.views id ≡ some view
    → (j k : ℕ) (a b : Part) → get_elem? view j ≡ some a → get_elem? view k ≡ some b → j ≢ k → AreApart a b
are_apart n s r id view at j k a b ea eb differ = record {
  ended = λ x y q g e f. differ (r.ended_once id j x id k y q g a b (view, at, ea) (view, at, eb) e f).1;
  records = λ x y lx ly e. differ (r.one_view id j x id k y a b (view, at, ea) (view, at, eb) lx ly e).1;
}

module _ (size : ℕ) (a : Part) where
  pub first_from : From a (first_records size a)
  first_from = record {
    seen = λ k p w e. absurd (some-ne-none (p, w) (sym e));
    ended = λ k p g e. absurd (some-ne-none (p, g) (sym e));
    recorded = λ k l. let m = length-take size a.records in (k, omega arith, refl, get_or-take size a.records k (Home 0) (omega arith));
  }

  pub later_from : From a (later_records size a)
  later_from = record {
    seen = λ k p w e. (k, e);
    ended = λ k p g e. (k, e);
    recorded = λ k l. let m = length-drop size a.records in (size + k, omega arith, omega arith, get_or-drop size a.records k (Home 0));
  }

  pub cut_apart : AreApart (later_records size a) (first_records size a)
  cut_apart = record {
    ended = λ k l p g e f. some-ne-none (p, g) (sym f);
    records = λ k l lk ll e. let m = length-take size a.records in omega arith;
  }
