-- Each step at a word keeps the life rule.
use Rattle.std.proofs.Common.{◌≡◌, ◌≢◌, ◌⊎◌, ℕ, ◌+◌, ◌-◌, ◌<◌, ◌≤◌, if◌then◌else◌, Bool, true, List, [], ◌∷◌, ◌++◌, map, length, get_or, set, sym, refl, ap, ◌∙◌, subst, inl, inr, ⊎_elim, arith, length-set, get_or-set_other, get_or-set_same, eq-eqb, ne_eqb}
use Rattle.std.proofs.lemmas.Bool.{true≢false}
use mathlib.Core.Logic.{dite}
use mathlib.Core.Option.{some, some-injective}
use native.Mathlib.Decide.{ℕ_discrete}
use lib.ListN.{get_elem?}
use Rattle.atomic_table.proofs.Lists.{at_snoc, at_longer, at_last, at_map}
use Rattle.hg_place.specs.declared.standing.Standing.{Standing}
use Rattle.hg_place.specs.declared.standing.Standing.TheVariants.{Home, Open}
use Rattle.hg_place.specs.Lives.{word_generation, word_owner, word_life, IsSlotWord, IsLiveWord, IsAtOrBefore}
use Rattle.hg_place.specs.Standings.{standing_at, standing_generation, is_home, Fits}
use Rattle.hg_table.specs.declared.view.Part.{Part}
use Rattle.hg_table.specs.View.{View, Table, HasRecord, but_one, saw, ending, recording, part_of}
use Rattle.hg_table.specs.LifeRule.{LifeRule, IsOver}
use Rattle.hg_table.specs.Steps.{WordStep, look, open_as, close_from, part_from, take_home, left_by, known_after, view_after, record_of, MayMake, MayMakeBy}
use Rattle.hg_table.specs.Told.{IsShown, IsShownTo}
use Rattle.hg_table.proofs.Knowing.{known, itself}
use Rattle.hg_table.proofs.ButOne.{one_is, others_are, stood_before, all_alike}
use Rattle.hg_table.proofs.Counted.{map_at}
use Rattle.hg_table.proofs.Forward.{Change, IsQuiet, moved}

pub pair_is : (a b c d : ℕ) → ◌≡◌ {A = ℕ × ℕ} (a, b) (c, d) → (a ≡ c) × (b ≡ d)
pair_is a b c d e = (ap (λ (x : ℕ × ℕ). x.0) e, ap (λ (x : ℕ × ℕ). x.1) e)

-- what the rule says of a word to a seat
pub shown_to : (n : ℕ) (s : Table) (r : LifeRule n s) (p id : ℕ) (view : View) → get_elem? s.views id ≡ some view → IsShownTo p (get_or s.words p 0) view
shown_to n s r p id view at j part e = let k = known n s r id j part (view, at, e) in record {
  slot_word = r.well_formed p;
  seen = λ m x q. k.seen m p x q;
  ended = λ m g q. k.ended m p g q;
  recorded = λ m l is. subst (λ (z : ℕ). Fits (standing_at part.records m) (get_or s.words z 0)) is (k.recorded m l);
}

-- the words of one life
pub live_slot : (w : ℕ) → IsLiveWord w → (1 ≤ word_generation w) × IsSlotWord (w - 1) × (word_generation (w - 1) ≡ word_generation w) × (word_owner (w - 1) ≡ word_owner w) × (word_life (w - 1) ≡ 0)
live_slot w h =
    let a = h.0.0 in
    let b = h.0.1 in
    let c = h.1 in
    let big : 4294967296 ≤ w = dite (native.Mathlib.Decide.dec_le 4294967296 w) (λ y. y) (λ no. absurd (let z : w ≡ 0 = h.0.2 (omega arith) in omega arith)) in
    (omega arith, (omega arith, omega arith, λ l. absurd (omega arith)), omega arith, omega arith, omega arith)

pub freed_word_after : (w : ℕ) → IsLiveWord w → IsAtOrBefore w (w - 1) × IsOver (word_generation w) (w - 1)
freed_word_after w h = let s = live_slot w h in let g = s.2 in let o = s.3 in let l = s.4 in ((omega arith, λ _. (sym o, omega arith)), (omega arith, λ _. l))

-- a live word that is freed: each record that fitted it still fits
open_spares : (w : ℕ) → IsLiveWord w → (st : Standing) → Fits st w → Fits st (w - 1)
open_spares w h (Home g) f = absurd (let a = f.freed refl in let b = h.1 in omega arith)
open_spares w h (Open g o) f = let s = live_slot w h in record {
  generation = s.2 ∙ f.generation;
  freed = λ e. absurd (true≢false (sym e));
  given_out = f.given_out;
  owner = λ e. s.3 ∙ f.owner e;
}

pub home_fits : (w : ℕ) → word_life w ≡ 0 → (g : ℕ) → word_generation w ≡ g → Fits (Home g) w
home_fits w freed g is = record {
  generation = is;
  freed = λ _. freed;
  given_out = λ e. absurd (true≢false e);
  owner = λ e. absurd (true≢false e);
}

freed_home : (w : ℕ) → IsLiveWord w → Fits (Home (word_generation w)) (w - 1)
freed_home w h = let s = live_slot w h in home_fits (w - 1) s.4 (word_generation w) s.2

open_fits : (w : ℕ) → 1 ≤ word_generation w → Fits (Open (word_generation w) (word_owner w)) w
open_fits w given = record {
  generation = refl;
  freed = λ e. absurd (true≢false (sym e));
  given_out = λ _. given;
  owner = λ _. refl;
}

module _ (p u v : ℕ) (a : Part) (ended' : List (ℕ × ℕ)) (rs : List Standing) where
  change : length rs ≡ length a.records
      → ((k q g : ℕ) → get_elem? ended' k ≡ some (q, g) → ((p ≡ q) × (word_generation u ≡ g) × (word_life u ≡ 1) × IsOver g v) ⊎ ((l : ℕ) × (get_elem? a.ended l ≡ some (q, g))))
      → ((k q g : ℕ) → get_elem? a.ended k ≡ some (q, g) → (l : ℕ) × (get_elem? ended' l ≡ some (q, g)))
      → ((k : ℕ) → k < length a.records → a.first + k ≡ p → Fits (standing_at rs k) v)
      → ((k : ℕ) → k < length a.records → a.first + k ≢ p → standing_at rs k ≡ standing_at a.records k)
      → Change p u v a record { seen = a.seen ++ (p, v) ∷ []; ended = ended'; first = a.first; records = rs; may_give = a.may_give }
  change wide ended still here elsewhere = record {
    saw_it = (length a.seen, at_last a.seen (p, v) (length a.seen) refl);
    seen_still = λ k q w e. (k, at_longer a.seen ((p, v) ∷ []) k (q, w) e);
    ended_still = still;
    may_give = refl;
    first = refl;
    records = wide;
    seen = λ k q w e. ⊎_elim (λ (o : get_elem? a.seen k ≡ some (q, w)). inr (k, o)) (λ (is : ◌≡◌ {A = ℕ × ℕ} (p, v) (q, w)). inl (pair_is p v q w is)) (at_snoc a.seen (p, v) (q, w) k e);
    ended = ended;
    here = here;
    elsewhere = elsewhere;
  }

-- a step that leaves the word
still : (p w : ℕ) (a : Part) → ((k : ℕ) → k < length a.records → a.first + k ≡ p → Fits (standing_at a.records k) w) → Change p w w a (saw p w a)
still p w a fits = change p w w a a.ended a.records refl (λ k q g e. inr (k, e)) (λ k q g e. (k, e)) fits (λ k l ne. refl)

last_or : (p g : ℕ) (a : Part) (k q h : ℕ) → get_elem? (a.ended ++ (p, g) ∷ []) k ≡ some (q, h) → ((p ≡ q) × (g ≡ h)) ⊎ ((l : ℕ) × (get_elem? a.ended l ≡ some (q, h)))
last_or p g a k q h e = ⊎_elim (λ (o : get_elem? a.ended k ≡ some (q, h)). inr (k, o)) (λ (is : ◌≡◌ {A = ℕ × ℕ} (p, g) (q, h)). inl (pair_is p g q h is)) (at_snoc a.ended (p, g) (q, h) k e)

-- the record of p is st from now on
record_here : (p : ℕ) (a : Part) (st : Standing) (v : ℕ) → Fits st v → (k : ℕ) → k < length a.records → a.first + k ≡ p → Fits (standing_at (set a.records (p - a.first) st) k) v
record_here p a st v fits k l is = let at : p - a.first ≡ k = omega arith in
    subst (λ (z : ℕ). Fits (standing_at (set a.records z st) k) v) (sym at) (subst (λ (x : Standing). Fits x v) (sym (get_or-set_same a.records k st (Home 0) l)) fits)

record_elsewhere : (p : ℕ) (a : Part) (st : Standing) → a.first ≤ p → (k : ℕ) → k < length a.records → a.first + k ≢ p → standing_at (set a.records (p - a.first) st) k ≡ standing_at a.records k
record_elsewhere p a st from k l not = get_or-set_other a.records (p - a.first) k st (Home 0) (λ e. not (omega arith))

-- the table after a step at the word p that leaves v, by a seat whose view becomes w
abbrev pub after : Table → ℕ → ℕ → ℕ → View → Table
after s p v id w = record { words = set s.words p v; homes = s.homes; views = set s.views id w }

module _ (n : ℕ) (s : Table) (r : LifeRule n s) (p id : ℕ) (view : View) (at : get_elem? s.views id ≡ some view) (below : p < n + 1) where
  abbrev found : ℕ
  found = get_or s.words p 0

  looking : LifeRule n (after s p found id (map (saw p found) view))
  looking = let w : ℕ = found in let wide = r.all_words in
      let sees : (j : ℕ) (a : Part) → get_elem? view j ≡ some a → Change p w w a (saw p w a) = λ j a e. still p w a (shown_to n s r p id view at j a e).recorded in
      moved n s r p w id [] view (map (saw p w) view) at (omega arith) (r.well_formed p) (itself w) (λ e. subst (λ (z : ℕ). get_or s.words z 0 ≡ 0) (sym e) r.spare)
      (λ j b e. let m = map_at (saw p w) view j b e in (m.0, m.1, subst (Change p w w m.0) m.2 (sees j m.0 m.1)))
      (λ j a e. (saw p w a, at_map (saw p w) view j a e, sees j a e))
      (inr refl) (λ g one over. inl over) (inl (λ st f. f))

  -- the part at this number makes the step
  module _ (by : ℕ) (mine : Part) (there : get_elem? view by ≡ some mine) (some_place : 1 ≤ p) where
    -- it changes to f of it, and each other has seen the word that is left
    stepping : (v : ℕ) (f : Part → Part) → IsSlotWord v → IsAtOrBefore found v
        → Change p found v mine (f mine)
        → ((g : ℕ) → 1 ≤ g → IsOver g v → IsOver g found ⊎ ((k : ℕ) × (get_elem? (f mine).ended k ≡ some (p, g))))
        → ((st : Standing) → Fits st found → Fits st v) ⊎ HasRecord p mine
        → LifeRule n (after s p v id (but_one by f (saw p v) view))
    stepping v f sane forward ch ends spares = let wide = r.all_words in
        let new : View = but_one by f (saw p v) view in
        let sees : (j : ℕ) (a : Part) → j ≢ by → get_elem? view j ≡ some a → Change p found v a (saw p v a) = λ j a not e.
        change p found v a a.ended a.records refl (λ k q g m. inr (k, m)) (λ k q g m. (k, m))
        (λ k l is. ⊎_elim (λ fits. fits (standing_at a.records k) ((shown_to n s r p id view at j a e).recorded k l is))
        (λ (has : HasRecord p mine). absurd (not (r.one_view id j k id by has.0 a mine (view, at, e) (view, at, there) l has.1 (is ∙ sym has.2)).1)) spares)
        (λ k l ne. refl) in
        let same : (a : Part) → get_elem? view by ≡ some a → mine ≡ a = λ a e. some-injective mine a (sym there ∙ e) in
        let becomes : (j : ℕ) (a : Part) → get_elem? view j ≡ some a → (b : Part) × (get_elem? new j ≡ some b) × Change p found v a b = λ j a e.
        dite (ℕ_discrete j by)
        (λ (is : j ≡ by). let here = subst (λ (z : ℕ). get_elem? view z ≡ some a) is e in
        (f a, subst (λ (z : ℕ). get_elem? new z ≡ some (f a)) (sym is) (one_is f (saw p v) view by a here), subst (λ (z : Part). Change p found v z (f z)) (same a here) ch))
        (λ not. (saw p v a, others_are f (saw p v) view by j a not e, sees j a not e)) in
        moved n s r p v id [] view new at (omega arith) sane forward (λ e. absurd (omega arith))
        (λ j b e. let m = stood_before f (saw p v) view by j b e in (
          m.0,
          m.1,
          ⊎_elim
              (λ (t : (j ≡ by) × (f m.0 ≡ b)). subst (Change p found v m.0) t.1 (subst (λ (z : Part). Change p found v z (f z)) (same m.0 (subst (λ (z : ℕ). get_elem? view z ≡ some m.0) t.0 m.1)) ch))
              (λ (t : (j ≢ by) × (saw p v m.0 ≡ b)). subst (Change p found v m.0) t.1 (sees j m.0 t.0 m.1)) m.2,
        ))
        becomes
        (inl (
          by,
          mine,
          there,
          λ j a b not e eb.
              let is : saw p v a ≡ b = some-injective (saw p v a) b (sym (others_are f (saw p v) view by j a not e) ∙ eb) in
              subst (IsQuiet a) is (λ k q g m. (k, m)),
        ))
        (λ g least over. ⊎_elim inl (λ (t : (k : ℕ) × (get_elem? (f mine).ended k ≡ some (p, g))). inr (by, t.0, f mine, one_is f (saw p v) view by mine there, t.1)) (ends g least over))
        (⊎_elim inl (λ (t : HasRecord p mine). inr (by, t.0, mine, there, t.1, t.2)) spares)

    pub shown : IsShown p found mine
    shown = shown_to n s r p id view at by mine there

    -- the live word that was expected stands: it becomes the freed one
    module _ (live : IsLiveWord found) where
      -- the lives that are over then were over, or it is this one, which is the last that was ended
      ended_here : (g : ℕ) → 1 ≤ g → IsOver g (found - 1) → IsOver g found ⊎ ((k : ℕ) × (get_elem? (mine.ended ++ (p, word_generation found) ∷ []) k ≡ some (p, g)))
      ended_here g one over = let slot = live_slot found live in let same = slot.2 in dite (ℕ_discrete (word_generation found) g)
          (λ (is : word_generation found ≡ g). inr (length mine.ended, subst (λ (z : ℕ). get_elem? (mine.ended ++ (p, word_generation found) ∷ []) (length mine.ended) ≡ some (p, z)) is (at_last mine.ended (p, word_generation found) (length mine.ended) refl)))
          (λ not. inl (let low = over.0 in omega arith, λ is. absurd (not is)))

      parting : LifeRule n (after s p (found - 1) id (but_one by (λ part. ending p (word_generation found) (saw p (found - 1) part)) (saw p (found - 1)) view))
      parting = let after_it = freed_word_after found live in let slot = live_slot found live in
          stepping (found - 1) (λ part. ending p (word_generation found) (saw p (found - 1) part)) slot.1 after_it.0
          (change p found (found - 1) mine (mine.ended ++ (p, word_generation found) ∷ []) mine.records refl
          (λ k q g m. ⊎_elim (λ (t : (p ≡ q) × (word_generation found ≡ g)). inl (t.0, t.1, live.1, subst (λ (z : ℕ). IsOver z (found - 1)) t.1 after_it.1)) inr (last_or p (word_generation found) mine k q g m))
          (λ k q g e. (k, at_longer mine.ended ((p, word_generation found) ∷ []) k (q, g) e))
          (λ k l is. open_spares found live (standing_at mine.records k) (shown.recorded k l is))
          (λ k l ne. refl))
          ended_here
          (inl (λ st fits. open_spares found live st fits))

      closing : HasRecord p mine → LifeRule n (after s p (found - 1) id (but_one by (λ part. recording p (Home (word_generation found)) (ending p (word_generation found) (saw p (found - 1) part))) (saw p (found - 1)) view))
      closing has = let after_it = freed_word_after found live in let slot = live_slot found live in let inside = has.1 in let here = has.2 in
          stepping (found - 1) (λ part. recording p (Home (word_generation found)) (ending p (word_generation found) (saw p (found - 1) part))) slot.1 after_it.0
          (change p found (found - 1) mine (mine.ended ++ (p, word_generation found) ∷ []) (set mine.records (p - mine.first) (Home (word_generation found))) (length-set mine.records (p - mine.first) (Home (word_generation found)))
          (λ k q g m. ⊎_elim (λ (t : (p ≡ q) × (word_generation found ≡ g)). inl (t.0, t.1, live.1, subst (λ (z : ℕ). IsOver z (found - 1)) t.1 after_it.1)) inr (last_or p (word_generation found) mine k q g m))
          (λ k q g e. (k, at_longer mine.ended ((p, word_generation found) ∷ []) k (q, g) e))
          (record_here p mine (Home (word_generation found)) (found - 1) (freed_home found live))
          (record_elsewhere p mine (Home (word_generation found)) (omega arith)))
          ended_here
          (inr has)

    record_fits : HasRecord p mine → Fits (record_of p mine) found
    record_fits has =
        let inside = has.1 in
        let here = has.2 in
        let slot : p - mine.first ≡ has.0 = omega arith in
        subst (λ (z : ℕ). Fits (standing_at mine.records z) found) (sym slot) (shown.recorded has.0 inside here)

    -- the live word of the next generation is after the one that is found at home
    next_life : (v : ℕ) → HasRecord p mine → word_generation v ≡ standing_generation (record_of p mine) + 1 → IsAtOrBefore found v
    next_life v has next = let was : word_generation found ≡ standing_generation (record_of p mine) = (record_fits has).generation in
        (omega arith, λ same. absurd (omega arith))

    -- what is over at a live word that is opened was over at the place, which is home
    over_before : (v : ℕ) → HasRecord p mine → word_generation v ≡ standing_generation (record_of p mine) + 1 → is_home (record_of p mine) ≡ true → IsLiveWord v → (g : ℕ) → IsOver g v → IsOver g found
    over_before v has next home live g over =
        let fits = record_fits has in
        let was : word_generation found ≡ standing_generation (record_of p mine) = fits.generation in
        let freed : word_life found ≡ 0 = fits.freed home in
        let low = over.0 in
        dite (ℕ_discrete (word_generation v) g)
        (λ (is : word_generation v ≡ g). absurd (let dead = over.1 is in let alive = live.1 in omega arith))
        (λ not. (omega arith, λ _. freed))

    opening : (v : ℕ) → IsLiveWord v → HasRecord p mine → (is_home (record_of p mine) ≡ true) → word_generation v ≡ standing_generation (record_of p mine) + 1
        → LifeRule n (after s p v id (but_one by (λ part. recording p (Open (word_generation v) (word_owner v)) (saw p v part)) (saw p v) view))
    opening v live has home next = let inside = has.1 in let here = has.2 in let st : Standing = Open (word_generation v) (word_owner v) in
        stepping v (λ part. recording p st (saw p v part)) live.0 (next_life v has next)
        (change p found v mine mine.ended (set mine.records (p - mine.first) st) (length-set mine.records (p - mine.first) st) (λ k q g e. inr (k, e)) (λ k q g e. (k, e))
        (record_here p mine st v (open_fits v (live_slot v live).0))
        (record_elsewhere p mine st (omega arith)))
        (λ g least over. inl (over_before v has next home live g over))
        (inr has)

    taking : HasRecord p mine → word_life found ≡ 0 → LifeRule n (after s p found id (but_one by (λ part. recording p (Home (word_generation found)) (saw p found part)) (saw p found) view))
    taking has freed = let inside = has.1 in let here = has.2 in let st : Standing = Home (word_generation found) in
        stepping found (λ part. recording p st (saw p found part)) (r.well_formed p) (itself found)
        (change p found found mine mine.ended (set mine.records (p - mine.first) st) (length-set mine.records (p - mine.first) st) (λ k q g e. inr (k, e)) (λ k q g e. (k, e))
        (record_here p mine st found (home_fits found freed (word_generation found) refl))
        (record_elsewhere p mine st (omega arith)))
        (λ g least over. inl over)
        (inr has)

  -- each of them
  pub keeps_rule_by : (by : ℕ) (step : WordStep) → MayMakeBy by step p view → LifeRule n (after s p (left_by step found) id (view_after by step p found view))
  keeps_rule_by by look may = subst (λ (z : View). LifeRule n (after s p found id z)) (sym (all_alike (saw p found) view by)) looking
  keeps_rule_by by (open_as live) may = let owes = may.3 in opening by may.1 may.2 may.0 live owes.0 owes.1 owes.2 owes.3
  keeps_rule_by by (close_from expected) may = dite (ℕ_discrete found expected)
      (λ hit. subst (λ (b : Bool). LifeRule n (after s p (if b then expected - 1 else found) id
      (but_one by (λ part. if b then recording p (Home (word_generation expected)) (ending p (word_generation expected) (saw p (expected - 1) part)) else saw p found part) (saw p (if b then expected - 1 else found)) view)))
      (sym (eq-eqb found expected hit))
      (subst (λ (z : ℕ). LifeRule n (after s p (z - 1) id (but_one by (λ part. recording p (Home (word_generation z)) (ending p (word_generation z) (saw p (z - 1) part))) (saw p (z - 1)) view))) hit
      (let owes = may.3 in closing by may.1 may.2 may.0 (subst IsLiveWord (sym hit) owes.0) owes.1)))
      (λ miss. subst (λ (b : Bool). LifeRule n (after s p (if b then expected - 1 else found) id
      (but_one by (λ part. if b then recording p (Home (word_generation expected)) (ending p (word_generation expected) (saw p (expected - 1) part)) else saw p found part) (saw p (if b then expected - 1 else found)) view)))
      (sym (ne_eqb found expected miss))
      (subst (λ (z : View). LifeRule n (after s p found id z)) (sym (all_alike (saw p found) view by)) looking))
  keeps_rule_by by (part_from expected) may = dite (ℕ_discrete found expected)
      (λ hit. subst (λ (b : Bool). LifeRule n (after s p (if b then expected - 1 else found) id
      (but_one by (λ part. if b then ending p (word_generation expected) (saw p (expected - 1) part) else saw p found part) (saw p (if b then expected - 1 else found)) view)))
      (sym (eq-eqb found expected hit))
      (subst (λ (z : ℕ). LifeRule n (after s p (z - 1) id (but_one by (λ part. ending p (word_generation z) (saw p (z - 1) part)) (saw p (z - 1)) view))) hit
      (parting by may.1 may.2 may.0 (subst IsLiveWord (sym hit) may.3))))
      (λ miss. subst (λ (b : Bool). LifeRule n (after s p (if b then expected - 1 else found) id
      (but_one by (λ part. if b then ending p (word_generation expected) (saw p (expected - 1) part) else saw p found part) (saw p (if b then expected - 1 else found)) view)))
      (sym (ne_eqb found expected miss))
      (subst (λ (z : View). LifeRule n (after s p found id z)) (sym (all_alike (saw p found) view by)) looking))
  keeps_rule_by by take_home may = dite (ℕ_discrete (word_life found) 0)
      (λ freed. subst (λ (b : Bool). LifeRule n (after s p found id
      (but_one by (λ part. if b then recording p (Home (word_generation found)) (saw p found part) else saw p found part) (saw p found) view)))
      (sym (eq-eqb (word_life found) 0 freed)) (taking by may.1 may.2 may.0 may.3 freed))
      (λ alive. subst (λ (b : Bool). LifeRule n (after s p found id
      (but_one by (λ part. if b then recording p (Home (word_generation found)) (saw p found part) else saw p found part) (saw p found) view)))
      (sym (ne_eqb (word_life found) 0 alive))
      (subst (λ (z : View). LifeRule n (after s p found id z)) (sym (all_alike (saw p found) view by)) looking))

  pub opened_forward : (live : ℕ) → MayMake (open_as live) p view → IsAtOrBefore found live
  opened_forward live may = let owes = may.1 in next_life 0 (part_of view) (ap (λ (z : View). get_elem? z 0) may.0.1) may.0.0 live owes.1 owes.3

  -- and of a seat of one part
  alone : (step : WordStep) → (view ≡ part_of view ∷ []) → MayMakeBy 0 step p view
      → LifeRule n (after s p (left_by step found) id (map (known_after step p found) view))
  alone step one may =
      let it : view_after 0 step p found view ≡ map (known_after step p found) view =
      subst (λ (z : View). view_after 0 step p found z ≡ map (known_after step p found) z) (sym one) refl in
      subst (λ (z : View). LifeRule n (after s p (left_by step found) id z)) it (keeps_rule_by 0 step may)

  pub keeps_rule : (step : WordStep) → MayMake step p view → LifeRule n (after s p (left_by step found) id (map (known_after step p found) view))
  keeps_rule look may = looking
  keeps_rule (open_as live) may = alone (open_as live) may.0.1 (may.0.0, part_of view, ap (λ (z : View). get_elem? z 0) may.0.1, may.1)
  keeps_rule (close_from expected) may = alone (close_from expected) may.0.1 (may.0.0, part_of view, ap (λ (z : View). get_elem? z 0) may.0.1, may.1)
  keeps_rule (part_from expected) may = alone (part_from expected) may.0.1 (may.0.0, part_of view, ap (λ (z : View). get_elem? z 0) may.0.1, may.1)
  keeps_rule take_home may = alone take_home may.0.1 (may.0.0, part_of view, ap (λ (z : View). get_elem? z 0) may.0.1, may.1)
