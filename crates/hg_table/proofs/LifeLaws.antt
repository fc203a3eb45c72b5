-- What holds of each table that steps lead to.
use Rattle.std.proofs.Common.{◌≡◌, ◌≢◌, ◌⊎◌, inl, inr, ℕ, zero, suc, ◌+◌, ◌-◌, ◌<◌, ◌==◌, if◌then◌else◌, Bool, List, [], ◌∷◌, set, get_or, replicate, sym, refl, ap, ◌∙◌, subst, arith, eq-eqb, ne_eqb}
use Rattle.std.proofs.Math.ListN.{length-replicate}
use mathlib.Core.Logic.{dite}
use mathlib.Core.Option.{some}
use native.Mathlib.Decide.{ℕ_discrete}
use lib.ListN.{get_elem?}
use Rattle.atomic_table.proofs.Lists.{set_else}
use Rattle.hg_place.specs.Lives.{IsSlotWord, IsAtOrBefore, IsLiveWord, word_generation}
use Rattle.hg_table.specs.View.{View, Table, IsSeen, seats_of}
use Rattle.hg_table.specs.LifeRule.{LifeRule}
use Rattle.hg_table.specs.Steps.{WordStep, look, open_as, close_from, part_from, take_home, left_by, MayMake, Kind, at_word, split, join, Makes, Steps}
use Rattle.hg_table.specs.LifeLaws.{NothingIsForgotten, SeatsStayAsMany, WhatEndsIsEnded, EndedBySomeSeat, WordsAreSeen, TheRuleGoesForward, new_table, LeadTo, none, next, StepsKeepTheRule, WordsGoForward, EndedStaysEnded, EndedByOneSeat, SeenIsNeverAhead, RecordsHold}
use Rattle.hg_table.proofs.Knowing.{itself, between, over_after}
use Rattle.hg_table.proofs.Counted.{seats_set, seats_more}
use Rattle.hg_table.proofs.Forward.{word_at_set}
use Rattle.hg_table.proofs.WordSteps.{freed_word_after, keeps_rule, opened_forward}
use Rattle.hg_table.proofs.ManyParts.{cuts, joins_all}
use Rattle.hg_table.proofs.Initial.{opens_table}

all_zero : (n i : ℕ) → get_or (replicate {A = ℕ} n 0) i 0 ≡ 0
all_zero zero i = refl
all_zero (suc n) zero = refl
all_zero (suc n) (suc i) = all_zero n i

pub begins : (places : ℕ) → LifeRule places (new_table places)
begins places = opens_table places (replicate (places + 1) 0) (length-replicate (places + 1) 0) (all_zero (places + 1))

made : (places : ℕ) (s t : Table) → LifeRule places s → (kind : Kind) (id : ℕ) (view : View) → get_elem? s.views id ≡ some view → Makes kind id view s t → LifeRule places t
made places s t r (at_word step at) id view here m = let wide = r.all_words in subst (LifeRule places) (sym m.2) (keeps_rule places s r at id view here (omega (arith, m.0)) step m.1)
made places s t r (split cut) id view here m = subst (LifeRule places) (sym m.1) (cuts places id cut view m.0 s r here)
made places s t r (join other) id view here m = subst (LifeRule places) (sym m.5)
    (joins_all places id other view m.0 s r here m.2 (set_else s.views id other _ m.2 ∙ m.1))

pub kept : (places : ℕ) (s t : Table) → LifeRule places s → Steps s t → LifeRule places t
kept places s t r m = made places s t r m.0 m.1 m.2 m.3 m.4

pub rule_kept : StepsKeepTheRule
rule_kept = record { begins = begins; kept = kept }

pub reached : (places : ℕ) (s t : Table) → LifeRule places s → LeadTo s t → LifeRule places t
reached places s t r none = r
reached places s t r (next {after = u} m more) = reached places u t (kept places s u r m) more

-- an exchange goes forward
exchanged : (w old : ℕ) → IsLiveWord old → IsAtOrBefore w (if w == old then old - 1 else w)
exchanged w old live = dite (ℕ_discrete w old)
    (λ hit. subst (λ (b : Bool). IsAtOrBefore w (if b then old - 1 else w)) (sym (eq-eqb w old hit)) (subst (λ (z : ℕ). IsAtOrBefore z (old - 1)) (sym hit) (freed_word_after old live).0))
    (λ miss. subst (λ (b : Bool). IsAtOrBefore w (if b then old - 1 else w)) (sym (ne_eqb w old miss)) (itself w))

pub forward : (places : ℕ) (s : Table) → LifeRule places s → (at id : ℕ) (view : View) → get_elem? s.views id ≡ some view → at < places + 1 → (step : WordStep) → MayMake step at view
    → IsAtOrBefore (get_or s.words at 0) (left_by step (get_or s.words at 0))
forward places s r at id view here below look may = itself _
forward places s r at id view here below (open_as live) may = opened_forward places s r at id view here below live may
forward places s r at id view here below (close_from old) may = exchanged _ old may.1.0
forward places s r at id view here below (part_from old) may = exchanged _ old may.1
forward places s r at id view here below take_home may = itself _

same_words : (s t : Table) (at : ℕ) → t.words ≡ s.words → IsAtOrBefore (get_or s.words at 0) (get_or t.words at 0)
same_words s t at e = subst (λ (l : List ℕ). IsAtOrBefore (get_or s.words at 0) (get_or l at 0)) (sym e) (itself _)

makes_forward : (places at : ℕ) (s t : Table) → LifeRule places s → (kind : Kind) (id : ℕ) (view : View) → get_elem? s.views id ≡ some view → Makes kind id view s t
    → IsAtOrBefore (get_or s.words at 0) (get_or t.words at 0)
makes_forward places at s t r (at_word step p) id view here m = subst (λ (l : List ℕ). IsAtOrBefore (get_or s.words at 0) (get_or l at 0)) (sym (ap (λ (z : Table). z.words) m.2))
    (word_at_set s.words p (left_by step (get_or s.words p 0)) at (λ z. IsAtOrBefore (get_or s.words at 0) z) m.0
    (λ e. subst (λ (z : ℕ). IsAtOrBefore (get_or s.words z 0) (left_by step (get_or s.words p 0))) e (forward places s r p id view here (let wide = r.all_words in omega (arith, m.0)) step m.1))
    (λ _. itself _))
makes_forward places at s t r (split cut) id view here m = same_words s t at (ap (λ (z : Table). z.words) m.1)
makes_forward places at s t r (join other) id view here m = same_words s t at (ap (λ (z : Table). z.words) m.5)

pub step_forward : (places at : ℕ) (s t : Table) → LifeRule places s → Steps s t → IsAtOrBefore (get_or s.words at 0) (get_or t.words at 0)
step_forward places at s t r m = makes_forward places at s t r m.0 m.1 m.2 m.3 m.4

pub run_forward : (places at : ℕ) (s t : Table) → LifeRule places s → LeadTo s t → IsAtOrBefore (get_or s.words at 0) (get_or t.words at 0)
run_forward places at s t r none = itself _
run_forward places at s t r (next {after = u} m more) = between _ _ _ (step_forward places at s u r m) (run_forward places at u t (kept places s u r m) more)

pub from_new : (places : ℕ) (s : Table) → LeadTo (new_table places) s → LifeRule places s
from_new places s to = reached places (new_table places) s (begins places) to

pub words_forward : WordsGoForward
words_forward places at s t to m = step_forward places at s t (from_new places s to) m

pub stays_ended : EndedStaysEnded
stays_ended places i j s t part to on has k at generation e = let r = from_new places s to in
    over_after generation _ _ (run_forward places at s t r on) (r.ended_is_over i j part has k at generation e)

pub by_one_seat : EndedByOneSeat
by_one_seat places i j k i' j' k' at generation s a b to ha hb ea eb = (from_new places s to).ended_once i j k i' j' k' at generation a b ha hb ea eb

pub never_ahead : SeenIsNeverAhead
never_ahead places i j s t part to on has k at word e = let r = from_new places s to in
    between word _ _ (r.seen_is_past i j part has k at word e) (run_forward places at s t r on)

pub hold : RecordsHold
hold places i j s part to has = (from_new places s to).records_are_true i j part has

pub by_some_seat : EndedBySomeSeat
by_some_seat places at generation s to one over = (from_new places s to).over_is_ended at generation one over

pub are_seen : WordsAreSeen
are_seen places at s to there = (from_new places s to).words_are_seen at there

-- the word of a place that was never given out is before each other
never_given : (word : ℕ) → IsSlotWord word → IsAtOrBefore 0 word
never_given word slot = (omega arith, λ same. let zero_is : word ≡ 0 = slot.2 (omega arith) in (omega arith, omega arith))

goes_forward :
    (places at : ℕ) (s t : Table) → LifeRule places s → LifeRule places t
    → NothingIsForgotten s.views t.views → IsAtOrBefore (get_or s.words at 0) (get_or t.words at 0)
goes_forward places at s t r r' kept = dite (ℕ_discrete (get_or s.words at 0) 0)
    (λ zero_is. subst (λ (z : ℕ). IsAtOrBefore z (get_or t.words at 0)) (sym zero_is)
    (never_given (get_or t.words at 0) (r'.well_formed at)))
    (λ there. let x = kept at (get_or s.words at 0) (r.words_are_seen at there) in
    r'.seen_is_past x.0 x.1 x.3 x.4 x.2 at (get_or s.words at 0) x.5)

-- two words of a slot, each at or before the other, are one
one_word :
    (one other : ℕ) → IsSlotWord one → IsSlotWord other → IsAtOrBefore one other
    → IsAtOrBefore other one → one ≡ other
one_word one other a b before behind =
    let low = before.0 in
    let high = behind.0 in
    let same : word_generation one ≡ word_generation other = omega arith in
    let owner = (before.1 same).0 in
    let life = (before.1 same).1 in
    let life' = (behind.1 (sym same)).1 in
    omega arith

changed_word :
    (places at : ℕ) (s t : Table) → LifeRule places s → LifeRule places t
    → NothingIsForgotten s.views t.views → get_or t.words at 0 ≢ get_or s.words at 0
    → IsSeen t.views at (get_or t.words at 0) × (¬ IsSeen s.views at (get_or t.words at 0))
changed_word places at s t r r' kept differs =
    let forward = goes_forward places at s t r r' kept in
    let u : ℕ = get_or s.words at 0 in
    let v : ℕ = get_or t.words at 0 in (
      r'.words_are_seen at
          (λ zero_is. differs (zero_is ∙ sym (none_before u (r.well_formed at)
          (subst (λ (z : ℕ). IsAtOrBefore u z) zero_is forward)))),
      λ x. differs (one_word v u (r'.well_formed at) (r.well_formed at)
          (r.seen_is_past x.0 x.1 x.3 x.4 x.2 at v x.5) forward),
    )
  where
    none_before : (word : ℕ) → IsSlotWord word → IsAtOrBefore word 0 → word ≡ 0
    none_before word slot before = slot.2 (let low = before.0 in omega arith)

pub rule_forward : TheRuleGoesForward
rule_forward = record { forward = goes_forward; changed = changed_word }

pub ends_ended : WhatEndsIsEnded
ends_ended places at generation s t r r' one before over = (
  r'.over_is_ended at generation one over,
  λ x. before (r.ended_is_over x.0 x.1 x.3 x.4 x.2 at generation x.5),
)

no_seats : (view : View) → seats_of view ≡ 0 → view ≡ []
no_seats [] e = refl
no_seats (part ∷ more) e = absurd (omega arith)

one_has_none :
    (left right : View) → seats_of left + seats_of right ≡ 1 → (left ≡ []) ⊎ (right ≡ [])
one_has_none [] right e = inl refl
one_has_none (part ∷ more) right e = inr (no_seats right (omega arith))

pub stay_as_many : SeatsStayAsMany
stay_as_many = record {
  many = λ places s t r r'. r'.seats ∙ sym r.seats;
  step = λ places id s words homes view new r here r'.
      let put = seats_set s.views id view new here in
      let before = r.seats in
      let after = r'.seats in
      omega arith;
  cut = λ places id s words homes part left right r here none r'.
      let put = seats_set s.views id (part ∷ []) left here in
      let more = seats_more (set s.views id left) right in
      let before = r.seats in
      let after = r'.seats in
      one_has_none left right (omega arith);
  come = λ places s words homes view r r'.
      let more = seats_more s.views view in
      let before = r.seats in
      let after = r'.seats in
      no_seats view (omega arith);
}
