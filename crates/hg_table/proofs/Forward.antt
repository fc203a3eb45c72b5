-- A step that goes forward keeps the life rule.
use Rattle.std.proofs.Common.{◌≡◌, ◌≢◌, ◌⊎◌, ℕ, ◌+◌, ◌<◌, ◌≤◌, List, length, get_or, set, sym, refl, ap, ◌∙◌, subst, inl, inr, ⊎_elim, arith, length-set, get_or-set_other, get_or-set_same}
use mathlib.Core.Logic.{dite}
use mathlib.Core.Option.{some, some-injective}
use native.Mathlib.Decide.{ℕ_discrete}
use lib.ListN.{get_elem?}
use Rattle.atomic_table.specs.Table.{keeps, stepped}
use Rattle.atomic_table.proofs.Lists.{at_set, set_else}
use Rattle.hg_place.specs.declared.standing.Standing.{Standing}
use Rattle.hg_place.specs.Lives.{word_generation, word_life, IsSlotWord, IsAtOrBefore}
use Rattle.hg_place.specs.Standings.{standing_at, Fits}
use Rattle.hg_table.specs.declared.view.Part.{Part}
use Rattle.hg_table.specs.View.{View, Table, Has, IsSeen, IsEnded, all_seats, SEATS_TO_GIVE}
use Rattle.hg_table.specs.LifeRule.{LifeRule, IsOver}
use Rattle.hg_table.proofs.Knowing.{Knows, known, itself, between, over_after}
use Rattle.hg_table.proofs.Counted.{set_hit, same_seats, seats_kept}

-- what a step at p that found u and left v does to a part
pub record Change (p u v : ℕ) (old new : Part) : Type 0 where
  pub first : new.first ≡ old.first
  pub records : length new.records ≡ length old.records
  pub seen : (k q w : ℕ) → get_elem? new.seen k ≡ some (q, w) → ((p ≡ q) × (v ≡ w)) ⊎ ((l : ℕ) × (get_elem? old.seen l ≡ some (q, w)))
  pub ended :
      (k q g : ℕ) → get_elem? new.ended k ≡ some (q, g)
      → ((p ≡ q) × (word_generation u ≡ g) × (word_life u ≡ 1) × IsOver g v) ⊎ ((l : ℕ) × (get_elem? old.ended l ≡ some (q, g)))
  pub saw_it : (l : ℕ) × (get_elem? new.seen l ≡ some (p, v))
  pub seen_still : (k q w : ℕ) → get_elem? old.seen k ≡ some (q, w) → (l : ℕ) × (get_elem? new.seen l ≡ some (q, w))
  pub ended_still : (k q g : ℕ) → get_elem? old.ended k ≡ some (q, g) → (l : ℕ) × (get_elem? new.ended l ≡ some (q, g))
  pub may_give : new.may_give ≡ old.may_give
  pub here : (k : ℕ) → k < length old.records → old.first + k ≡ p → Fits (standing_at new.records k) v
  pub elsewhere : (k : ℕ) → k < length old.records → old.first + k ≢ p → standing_at new.records k ≡ standing_at old.records k

pub word_at_set : (ws : List ℕ) (p v q : ℕ) (F : ℕ → Type 0) → p < length ws → (p ≡ q → F v) → (p ≢ q → F (get_or ws q 0)) → F (get_or (set ws p v) q 0)
word_at_set ws p v q F inside hit miss = dite (ℕ_discrete p q)
    (λ e. subst (λ (z : ℕ). F (get_or (set ws p v) z 0)) e (subst F (sym (get_or-set_same ws p v 0 inside)) (hit e)))
    (λ ne. subst F (sym (get_or-set_other ws p q v 0 (λ e. ne (sym e)))) (miss ne))

-- a part has ended no life more
abbrev pub IsQuiet : Part → Part → Type 0
IsQuiet old new = (k q g : ℕ) → get_elem? new.ended k ≡ some (q, g) → (l : ℕ) × (get_elem? old.ended l ≡ some (q, g))

-- one part alone may have
abbrev pub IsByOne : View → View → Type 0
IsByOne old new =
    (mine : ℕ) × (own : Part) × (get_elem? old mine ≡ some own)
    × ((j : ℕ) (a b : Part) → j ≢ mine → get_elem? old j ≡ some a → get_elem? new j ≡ some b → IsQuiet a b)

module _ (n : ℕ) (s : Table) (r : LifeRule n s) (p v id : ℕ) (c : List (ℕ × Unit {0})) (old new : View) (at : get_elem? s.views id ≡ some old) (inside : p < length s.words)
    (sane : IsSlotWord v) (forward : IsAtOrBefore (get_or s.words p 0) v) (free : p ≡ 0 → v ≡ 0)
    (changes : (j : ℕ) (b : Part) → get_elem? new j ≡ some b → (a : Part) × (get_elem? old j ≡ some a) × Change p (get_or s.words p 0) v a b)
    (becomes : (j : ℕ) (a : Part) → get_elem? old j ≡ some a → (b : Part) × (get_elem? new j ≡ some b) × Change p (get_or s.words p 0) v a b)
    (alone : IsByOne old new ⊎ (get_or s.words p 0 ≡ v))
    (ends : (g : ℕ) → 1 ≤ g → IsOver g v → IsOver g (get_or s.words p 0) ⊎ ((j : ℕ) × (k : ℕ) × (b : Part) × (get_elem? new j ≡ some b) × (get_elem? b.ended k ≡ some (p, g))))
    (spares : ((st : Standing) → Fits st (get_or s.words p 0) → Fits st v) ⊎ ((j k : ℕ) × (a : Part) × (get_elem? old j ≡ some a) × (k < length a.records) × (a.first + k ≡ p))) where
  abbrev u : ℕ
  u = get_or s.words p 0

  abbrev words' : List ℕ
  words' = set s.words p v

  goes : (q : ℕ) → IsAtOrBefore (get_or s.words q 0) (get_or words' q 0)
  goes q = word_at_set s.words p v q (λ z. IsAtOrBefore (get_or s.words q 0) z) inside (λ e. subst (λ (z : ℕ). IsAtOrBefore (get_or s.words z 0) v) e forward) (λ _. itself (get_or s.words q 0))

  -- a part of another seat
  others_know : (i j : ℕ) (a : Part) → i ≢ id → Has s.views i j a → Knows words' a
  others_know i j a other has = let k = known n s r i j a has in record {
    seen = λ n q w e. between w _ _ (k.seen n q w e) (goes q);
    ended = λ n q g e. over_after g _ _ (goes q) (k.ended n q g e);
    recorded = λ n l. word_at_set s.words p v (a.first + n) (Fits (standing_at a.records n)) inside
        (λ e. let fits : Fits (standing_at a.records n) u = subst (λ (z : ℕ). Fits (standing_at a.records n) (get_or s.words z 0)) (sym e) (k.recorded n l) in
        ⊎_elim (λ f. f (standing_at a.records n) fits) (λ own. absurd (other (r.one_view i j n id own.0 own.1 a own.2 has (old, at, own.3) l own.4 (sym e ∙ sym own.5)).0)) spares)
        (λ _. k.recorded n l);
  }

  -- a part of the seat that steps
  mine_knows : (j : ℕ) (b : Part) → get_elem? new j ≡ some b → Knows words' b
  mine_knows j b eb = let ch = changes j b eb in let a = ch.0 in let d = ch.2 in let k = known n s r id j a (old, at, ch.1) in let wide = d.records in let base = d.first in record {
    seen = λ n q w e. ⊎_elim
        (λ (t : (p ≡ q) × (v ≡ w)). subst (λ (z : ℕ). IsAtOrBefore w (get_or words' z 0)) t.0 (subst (IsAtOrBefore w) (sym (get_or-set_same s.words p v 0 inside)) (subst (λ (z : ℕ). IsAtOrBefore z v) t.1 (itself v))))
        (λ (t : (l : ℕ) × (get_elem? a.seen l ≡ some (q, w))). between w _ _ (k.seen t.0 q w t.1) (goes q)) (d.seen n q w e);
    ended = λ n q g e. ⊎_elim
        (λ (t : (p ≡ q) × (word_generation u ≡ g) × (word_life u ≡ 1) × IsOver g v). subst (λ (z : ℕ). IsOver g (get_or words' z 0)) t.0 (subst (IsOver g) (sym (get_or-set_same s.words p v 0 inside)) t.3))
        (λ (t : (l : ℕ) × (get_elem? a.ended l ≡ some (q, g))). over_after g _ _ (goes q) (k.ended t.0 q g t.1)) (d.ended n q g e);
    recorded = λ n l. let less : n < length a.records = omega arith in word_at_set s.words p v (b.first + n) (Fits (standing_at b.records n)) inside
        (λ e. d.here n less (let f = base in omega arith))
        (λ ne. subst (λ (x : Standing). Fits x (get_or s.words (b.first + n) 0)) (sym (d.elsewhere n less (λ e. ne (omega arith))))
        (subst (λ (x : ℕ). Fits (standing_at a.records n) (get_or s.words (x + n) 0)) (sym base) (k.recorded n less)));
  }

  abbrev views' : List View
  views' = set s.views id new

  -- where a part stands now, a part stood before
  stood : (i j : ℕ) (b : Part) → Has views' i j b → ((i ≡ id) × (get_elem? new j ≡ some b)) ⊎ ((i ≢ id) × Has s.views i j b)
  stood i j b has = ⊎_elim (λ (t : (i ≡ id) × (new ≡ has.0)). inl (t.0, subst (λ (z : View). get_elem? z j ≡ some b) (sym t.1) has.2))
      (λ (t : (i ≢ id) × (get_elem? s.views i ≡ some has.0)). inr (t.0, (has.0, t.1, has.2))) (at_set s.views id i new has.0 has.1)

  abbrev Old : ℕ → ℕ → Part → Type 0
  Old i j b = (a : Part) × Has s.views i j a × (b.first ≡ a.first) × (length b.records ≡ length a.records)

  abbrev Fresh : ℕ → ℕ → ℕ → Type 0
  Fresh i q g = (i ≡ id) × (p ≡ q) × (word_generation u ≡ g) × (word_life u ≡ 1) × IsOver g v

  old_of : (i j : ℕ) (b : Part) → Has views' i j b → Old i j b
  old_of i j b has = ⊎_elim
      (λ (t : (i ≡ id) × (get_elem? new j ≡ some b)). let ch = changes j b t.1 in (ch.0, (old, subst (λ (z : ℕ). get_elem? s.views z ≡ some old) (sym t.0) at, ch.1), ch.2.first, ch.2.records))
      (λ (t : (i ≢ id) × Has s.views i j b). (b, t.1, refl, refl)) (stood i j b has)

  entry_of : (i j k q g : ℕ) (b : Part) → Has views' i j b → get_elem? b.ended k ≡ some (q, g) → Fresh i q g ⊎ ((a : Part) × (l : ℕ) × Has s.views i j a × (get_elem? a.ended l ≡ some (q, g)))
  entry_of i j k q g b has e = ⊎_elim
      (λ (t : (i ≡ id) × (get_elem? new j ≡ some b)). let ch = changes j b t.1 in ⊎_elim
      (λ (f : (p ≡ q) × (word_generation u ≡ g) × (word_life u ≡ 1) × IsOver g v). inl (t.0, f.0, f.1, f.2, f.3))
      (λ (o : (l : ℕ) × (get_elem? ch.0.ended l ≡ some (q, g))). inr (ch.0, o.0, (old, subst (λ (z : ℕ). get_elem? s.views z ≡ some old) (sym t.0) at, ch.1), o.1)) (ch.2.ended k q g e))
      (λ (t : (i ≢ id) × Has s.views i j b). inr (b, k, t.1, e)) (stood i j b has)

  -- the life that this step ends was in no list
  not_both : (i j l i' q g : ℕ) (a : Part) → Has s.views i j a → get_elem? a.ended l ≡ some (q, g) → Fresh i' q g → ⊥
  not_both i j l i' q g a has e f = let past = (known n s r i j a has).ended l q g e in let over = subst (λ (z : ℕ). IsOver g (get_or s.words z 0)) (sym f.1) past in let l = over.1 f.2 in let m = f.3 in omega arith

  -- and it is ended by one part
  mine_at : (mine j k q g : ℕ) (b : Part)
      → ((j : ℕ) (a b : Part) → j ≢ mine → get_elem? old j ≡ some a → get_elem? new j ≡ some b → IsQuiet a b)
      → Has views' id j b → get_elem? b.ended k ≡ some (q, g) → Fresh id q g → j ≡ mine
  mine_at mine j k q g b quiet has e fresh = dite (ℕ_discrete j mine) (λ is. is)
      (λ (not : j ≢ mine). absurd (⊎_elim
      (λ (t : (id ≡ id) × (get_elem? new j ≡ some b)). let ch = changes j b t.1 in let was = quiet j ch.0 b not ch.1 t.1 k q g e in not_both id j was.0 id q g ch.0 (old, at, ch.1) was.1 fresh)
      (λ (t : (id ≢ id) × Has s.views id j b). t.0 refl) (stood id j b has)))

  one_position : (i j k i' j' k' q g : ℕ) (a b : Part) → Has views' i j a → Has views' i' j' b → get_elem? a.ended k ≡ some (q, g) → get_elem? b.ended k' ≡ some (q, g) → Fresh i q g → Fresh i' q g → (i ≡ i') × (j ≡ j')
  one_position i j k i' j' k' q g a b ha hb ea eb now now' = (
    now.0 ∙ sym now'.0,
    ⊎_elim
        (λ (one : IsByOne old new).
        let own : (i j k : ℕ) (c : Part) → i ≡ id → Has views' i j c → get_elem? c.ended k ≡ some (q, g) → Fresh i q g → j ≡ one.0 = λ i j k c is has e fresh.
        mine_at one.0 j k q g c one.3 (subst (λ (z : ℕ). Has views' z j c) is has) e (subst (λ (z : ℕ). Fresh z q g) is fresh) in
        own i j k a now.0 ha ea now ∙ sym (own i' j' k' b now'.0 hb eb now'))
        (λ (still : u ≡ v). absurd (let l = (subst (IsOver g) (sym still) now.4).1 now.2 in let m = now.3 in omega arith)) alone,
  )

  now_knows : (i j : ℕ) (b : Part) → Has views' i j b → Knows words' b
  now_knows i j b has = ⊎_elim (λ (t : (i ≡ id) × (get_elem? new j ≡ some b)). mine_knows j b t.1) (λ (t : (i ≢ id) × Has s.views i j b). others_know i j b t.0 t.1) (stood i j b has)

  -- what the seat knows, and what others know, is known still
  new_here : get_elem? views' id ≡ some new
  new_here = set_hit s.views id old new at

  pub seen_on : (q w : ℕ) → IsSeen s.views q w → IsSeen views' q w
  seen_on q w x = let is_view = x.4.1 in let there = x.4.2 in dite (ℕ_discrete x.0 id)
      (λ (is : x.0 ≡ id). let mine : get_elem? old x.1 ≡ some x.3 = subst (λ (z : View). get_elem? z x.1 ≡ some x.3) (some-injective x.4.0 old (sym is_view ∙ (ap (get_elem? s.views) is ∙ at))) there in
      let b = becomes x.1 x.3 mine in let t = b.2.seen_still x.2 q w x.5 in (id, x.1, t.0, b.0, (new, new_here, b.1), t.1))
      (λ (not : x.0 ≢ id). (x.0, x.1, x.2, x.3, (x.4.0, set_else s.views id x.0 new not ∙ is_view, there), x.5))

  pub ended_on : (q g : ℕ) → IsEnded s.views q g → IsEnded views' q g
  ended_on q g x = let is_view = x.4.1 in let there = x.4.2 in dite (ℕ_discrete x.0 id)
      (λ (is : x.0 ≡ id). let mine : get_elem? old x.1 ≡ some x.3 = subst (λ (z : View). get_elem? z x.1 ≡ some x.3) (some-injective x.4.0 old (sym is_view ∙ (ap (get_elem? s.views) is ∙ at))) there in
      let b = becomes x.1 x.3 mine in let t = b.2.ended_still x.2 q g x.5 in (id, x.1, t.0, b.0, (new, new_here, b.1), t.1))
      (λ (not : x.0 ≢ id). (x.0, x.1, x.2, x.3, (x.4.0, set_else s.views id x.0 new not ∙ is_view, there), x.5))

  -- the word that is left was seen by this seat, or was there
  seen_here : v ≢ 0 → IsSeen views' p v
  seen_here there = ⊎_elim
      (λ (one : IsByOne old new). let b = becomes one.0 one.1 one.2 in let t = b.2.saw_it in
      (id, one.0, t.0, b.0, (new, new_here, b.1), t.1))
      (λ (still : u ≡ v). seen_on p v (subst (IsSeen s.views p) still (r.words_are_seen p (λ z. there (sym still ∙ z))))) alone

  over_here : (g : ℕ) → 1 ≤ g → IsOver g v → IsEnded views' p g
  over_here g one over = ⊎_elim
      (λ (was : IsOver g u). ended_on p g (r.over_is_ended p g one was))
      (λ (t : (j : ℕ) × (k : ℕ) × (b : Part) × (get_elem? new j ≡ some b) × (get_elem? b.ended k ≡ some (p, g))). (id, t.0, t.1, t.2, (new, new_here, t.3), t.4))
      (ends g one over)

  pub moved : LifeRule n (stepped s p v id c new keeps)
  moved = record {
    words_are_seen = λ q. word_at_set s.words p v q (λ z. z ≢ 0 → IsSeen views' q z) inside
        (λ (e : p ≡ q). subst (λ (z : ℕ). v ≢ 0 → IsSeen views' z v) e seen_here)
        (λ _ there. seen_on q (get_or s.words q 0) (r.words_are_seen q there));
    over_is_ended = λ q g one. word_at_set s.words p v q (λ z. IsOver g z → IsEnded views' q g) inside
        (λ (e : p ≡ q). subst (λ (z : ℕ). IsOver g v → IsEnded views' z g) e (over_here g one))
        (λ _ over. ended_on q g (r.over_is_ended q g one over));
    seats = seats_kept s.views id old new at
        (same_seats old new (λ j b e. let ch = changes j b e in (ch.0, ch.1, ch.2.may_give)) (λ j a e. let b = becomes j a e in (b.0, b.1))) ∙ r.seats;
    all_words = length-set s.words p v ∙ r.all_words;
    spare = word_at_set s.words p v 0 (λ z. z ≡ 0) inside free (λ _. r.spare);
    well_formed = λ q. word_at_set s.words p v q IsSlotWord inside (λ _. sane) (λ _. r.well_formed q);
    seen_is_past = λ i j b has. (now_knows i j b has).seen;
    ended_is_over = λ i j b has. (now_knows i j b has).ended;
    records_are_true = λ i j b has. (now_knows i j b has).recorded;
    ended_once = λ i j k i' j' k' q g a b ha hb ea eb. ⊎_elim
        (λ (f : Fresh i q g). ⊎_elim (λ (f' : Fresh i' q g). one_position i j k i' j' k' q g a b ha hb ea eb f f')
        (λ (o : (a : Part) × (l : ℕ) × Has s.views i' j' a × (get_elem? a.ended l ≡ some (q, g))). absurd (not_both i' j' o.1 i q g o.0 o.2 o.3 f)) (entry_of i' j' k' q g b hb eb))
        (λ (o : (a : Part) × (l : ℕ) × Has s.views i j a × (get_elem? a.ended l ≡ some (q, g))). ⊎_elim (λ (f' : Fresh i' q g). absurd (not_both i j o.1 i' q g o.0 o.2 o.3 f'))
        (λ (o' : (a : Part) × (l : ℕ) × Has s.views i' j' a × (get_elem? a.ended l ≡ some (q, g))). r.ended_once i j o.1 i' j' o'.1 q g o.0 o'.0 o.2 o'.2 o.3 o'.3) (entry_of i' j' k' q g b hb eb))
        (entry_of i j k q g a ha ea);
    one_view = λ i j k i' j' k' a b ha hb la lb e. let x = old_of i j a ha in let y = old_of i' j' b hb in
        let fx = x.2 in let fy = y.2 in let lx = x.3 in let ly = y.3 in r.one_view i j k i' j' k' x.0 y.0 x.1 y.1 (omega arith) (omega arith) (omega arith);
  }
