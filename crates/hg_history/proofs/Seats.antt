-- Seats that join and split keep the rule: the same parts stand at other places.
use Rattle.std.proofs.Common.{◌≡◌, ◌≢◌, ◌⊎◌, ℕ, ◌+◌, List, [], ◌∷◌, ◌++◌, length, set, sym}
use Rattle.std.proofs.Common.{◌∙◌, subst, inl, inr, ⊎_elim, arith}
use mathlib.Core.Option.{some}
use lib.ListN.{get_elem?}
use Rattle.hg_history.specs.Service.{Service, IsIn, Stands}
use Rattle.hg_history.specs.OneRun.{IsOneRun}
use Rattle.hg_history.proofs.Views.{at_set, at_append, at_first, at_second, at_last, at_below}
use Rattle.hg_history.proofs.Views.{none_there}

module _ {M C W P : Type 0} (x : Service M C W P) (shared : W) (views : List (List P)) where
  -- views that are other than before, with the same parts, each at one place
  moved_about : (now : List (List P)) → IsOneRun x shared views
      → ((i j : ℕ) (b : P) → Stands now i j b → (i0 j0 : ℕ) × Stands views i0 j0 b)
      → ((i j k l : ℕ) (a b : P) → Stands now i j a → Stands now k l b → x.name a ≡ x.name b
      → (i ≡ k) × (j ≡ l))
      → IsOneRun x shared now
  moved_about now r was one = record {
    history = r.history;
    state = r.state;
    legal = r.legal;
    shown = r.shown;
    agrees = λ i j b has. let o = was i j b has in r.agrees o.0 o.1 b o.2;
    logs = λ i j b has. let o = was i j b has in r.logs o.0 o.1 b o.2;
    one_part = one;
    below = λ i j b has. let o = was i j b has in r.below o.0 o.1 b o.2;
    beyond = r.beyond;
  }

  -- two seats become one
  module _ (id other : ℕ) (v w : List P) (r : IsOneRun x shared views) (at : IsIn views id v)
      (differ : other ≢ id) (theirs : IsIn views other w) where
    abbrev joined : List (List P)
    joined = set (set views id (v ++ w)) other []

    abbrev Left : ℕ → ℕ → P → Type 0
    Left i j b = (i ≡ id) × IsIn v j b

    abbrev Right : ℕ → ℕ → P → Type 0
    Right i j b = (i ≡ id) × (k : ℕ) × (j ≡ length v + k) × IsIn w k b

    abbrev Else : ℕ → ℕ → P → Type 0
    Else i j b = (i ≢ id) × (i ≢ other) × Stands views i j b

    abbrev Came : ℕ → ℕ → P → Type 0
    Came i j b = Left i j b ⊎ (Right i j b ⊎ Else i j b)

    came : (i j : ℕ) (b : P) → Stands joined i j b → Came i j b
    came i j b has = ⊎_elim
        (λ (t : (i ≡ other) × ([] ≡ has.0)). absurd (none_there has.0 j b t.1 has.2))
        (λ (u : (i ≢ other) × (get_elem? (set views id (v ++ w)) i ≡ some has.0)). ⊎_elim
        (λ (t : (i ≡ id) × ((v ++ w) ≡ has.0)). ⊎_elim
        (λ (e : get_elem? v j ≡ some b). inl (t.0, e))
        (λ (e : (k : ℕ) × (j ≡ length v + k) × (get_elem? w k ≡ some b)).
        inr (inl (t.0, e.0, e.1, e.2)))
        (at_append v w j b (subst (λ (z : List P). get_elem? z j ≡ some b) (sym t.1) has.2)))
        (λ (t : (i ≢ id) × (get_elem? views i ≡ some has.0)).
        inr (inr (t.0, u.0, (has.0, t.1, has.2)))) (at_set views id i (v ++ w) has.0 u.1))
        (at_set (set views id (v ++ w)) other i [] has.0 has.1)

    from : (i j : ℕ) (b : P) → Came i j b → (i0 j0 : ℕ) × Stands views i0 j0 b
    from i j b = ⊎_elim (λ (t : Left i j b). (id, j, (v, at, t.1)))
        (⊎_elim (λ (t : Right i j b). (other, t.1, (w, theirs, t.3)))
        (λ (t : Else i j b). (i, j, t.2)))

    one_place : (i j k l : ℕ) (y z : P) → x.name y ≡ x.name z → Came i j y → Came k l z
        → (i ≡ k) × (j ≡ l)
    one_place i j k l y z e = ⊎_elim
        (λ (t : Left i j y). ⊎_elim
        (λ (u : Left k l z).
        (t.0 ∙ sym u.0, (r.one_part id j id l y z (v, at, t.1) (v, at, u.1) e).1))
        (⊎_elim
        (λ (u : Right k l z).
        absurd (differ (sym (r.one_part id j other u.1 y z (v, at, t.1) (w, theirs, u.3) e).0)))
        (λ (u : Else k l z). absurd (u.0 (sym (r.one_part id j k l y z (v, at, t.1) u.2 e).0)))))
        (⊎_elim
        (λ (t : Right i j y). ⊎_elim
        (λ (u : Left k l z).
        absurd (differ (r.one_part other t.1 id l y z (w, theirs, t.3) (v, at, u.1) e).0))
        (⊎_elim
        (λ (u : Right k l z).
        let f = (r.one_part other t.1 other u.1 y z (w, theirs, t.3) (w, theirs, u.3) e).1 in
        let g = t.2 in let h = u.2 in (t.0 ∙ sym u.0, omega arith))
        (λ (u : Else k l z).
        absurd (u.1 (sym (r.one_part other t.1 k l y z (w, theirs, t.3) u.2 e).0)))))
        (λ (t : Else i j y). ⊎_elim
        (λ (u : Left k l z). absurd (t.0 (r.one_part i j id l y z t.2 (v, at, u.1) e).0))
        (⊎_elim
        (λ (u : Right k l z). absurd (t.1 (r.one_part i j other u.1 y z t.2 (w, theirs, u.3) e).0))
        (λ (u : Else k l z). r.one_part i j k l y z t.2 u.2 e))))

    pub joined_keeps : IsOneRun x shared joined
    joined_keeps =
        moved_about joined r (λ i j b has. from i j b (came i j b has))
        (λ i j k l y z hy hz e. one_place i j k l y z e (came i j y hy) (came k l z hz))

  -- one seat becomes two: its view is cut
  module _ (id : ℕ) (v w : List P) (r : IsOneRun x shared views) (at : IsIn views id (v ++ w)) where
    abbrev rest : List (List P)
    rest = set views id v

    abbrev First : ℕ → ℕ → P → Type 0
    First i j b = (i ≡ id) × IsIn v j b

    abbrev Second : ℕ → ℕ → P → Type 0
    Second i j b = (i ≡ length rest) × IsIn w j b

    abbrev Apart : ℕ → ℕ → P → Type 0
    Apart i j b = (i ≢ id) × Stands views i j b

    abbrev Now : ℕ → ℕ → P → Type 0
    Now i j b = First i j b ⊎ (Second i j b ⊎ Apart i j b)

    stands : (i j : ℕ) (b : P) → Stands (rest ++ w ∷ []) i j b → Now i j b
    stands i j b has = ⊎_elim
        (λ (e : get_elem? rest i ≡ some has.0). ⊎_elim
        (λ (t : (i ≡ id) × (v ≡ has.0)).
        inl (t.0, subst (λ (z : List P). get_elem? z j ≡ some b) (sym t.1) has.2))
        (λ (t : (i ≢ id) × (get_elem? views i ≡ some has.0)). inr (inr (t.0, (has.0, t.1, has.2))))
        (at_set views id i v has.0 e))
        (λ (t : (i ≡ length rest) × (w ≡ has.0)).
        inr (inl (t.0, subst (λ (z : List P). get_elem? z j ≡ some b) (sym t.1) has.2)))
        (at_last rest w has.0 i has.1)

    in_first : (j : ℕ) (b : P) → IsIn v j b → Stands views id j b
    in_first j b e = (v ++ w, at, at_first v w j b e)

    in_second : (j : ℕ) (b : P) → IsIn w j b → Stands views id (length v + j) b
    in_second j b e = (v ++ w, at, at_second v w j b e)

    whence : (i j : ℕ) (b : P) → Now i j b → (i0 j0 : ℕ) × Stands views i0 j0 b
    whence i j b = ⊎_elim (λ (t : First i j b). (id, j, in_first j b t.1))
        (⊎_elim (λ (t : Second i j b). (id, length v + j, in_second j b t.1))
        (λ (t : Apart i j b). (i, j, t.1)))

    one_spot : (i j k l : ℕ) (y z : P) → x.name y ≡ x.name z → Now i j y → Now k l z
        → (i ≡ k) × (j ≡ l)
    one_spot i j k l y z e = ⊎_elim
        (λ (t : First i j y). ⊎_elim
        (λ (u : First k l z).
        (t.0 ∙ sym u.0, (r.one_part id j id l y z (in_first j y t.1) (in_first l z u.1) e).1))
        (⊎_elim
        (λ (u : Second k l z).
        let h = at_below v j y t.1 in
        let g =
        (r.one_part id j id (length v + l) y z (in_first j y t.1) (in_second l z u.1) e).1 in
        absurd (omega arith))
        (λ (u : Apart k l z).
        absurd (u.0 (sym (r.one_part id j k l y z (in_first j y t.1) u.1 e).0)))))
        (⊎_elim
        (λ (t : Second i j y). ⊎_elim
        (λ (u : First k l z).
        let h = at_below v l z u.1 in
        let g =
        (r.one_part id (length v + j) id l y z (in_second j y t.1) (in_first l z u.1) e).1 in
        absurd (omega arith))
        (⊎_elim
        (λ (u : Second k l z).
        let g =
        (r.one_part id (length v + j) id (length v + l) y z (in_second j y t.1)
        (in_second l z u.1) e).1 in (t.0 ∙ sym u.0, omega arith))
        (λ (u : Apart k l z).
        absurd (u.0 (sym (r.one_part id (length v + j) k l y z (in_second j y t.1) u.1 e).0)))))
        (λ (t : Apart i j y). ⊎_elim
        (λ (u : First k l z). absurd (t.0 (r.one_part i j id l y z t.1 (in_first l z u.1) e).0))
        (⊎_elim
        (λ (u : Second k l z).
        absurd (t.0 (r.one_part i j id (length v + l) y z t.1 (in_second l z u.1) e).0))
        (λ (u : Apart k l z). r.one_part i j k l y z t.1 u.1 e))))

    pub split_keeps : IsOneRun x shared (rest ++ w ∷ [])
    split_keeps =
        moved_about (rest ++ w ∷ []) r (λ i j b has. whence i j b (stands i j b has))
        (λ i j k l y z hy hz e. one_spot i j k l y z e (stands i j y hy) (stands k l z hz))
