-- Each step at a word is allowed, and tells what it does.
use Rattle.std.proofs.Common.{◌≡◌, ℕ, ◌+◌, ◌-◌, ◌<◌, eqb, map, get_or, refl, subst, eq-eqb, ne_eqb}
use mathlib.Core.Option.{none}
use prog.Atomic.{either}
use Rattle.atomic_table.specs.Table.{step, keeps, Allows}
use Rattle.atomic_table.proofs.Lists.{exchanged}
use Rattle.hg_table.specs.LifeRule.{LifeRule}
use Rattle.hg_table.specs.Steps.{WordStep, look, open_as, close_from, part_from, take_home, left_by, known_after, MayMake}
use Rattle.hg_table.specs.Told.{Mine, Tells, looked, opened, closed, parted, took, met}
use Rattle.hg_table.proofs.WordSteps.{shown_to, keeps_rule, after}
use Rattle.hg_table.proofs.Cuts.{are_apart}

module _ (n slots id : ℕ) (me : Mine) (p : ℕ) (below : p < n + 1) where
  -- a step that leaves what the kind of step leaves
  made : (kind : WordStep) (a b : ℕ) → MayMake kind p me.0 → Allows (LifeRule n) slots id me p (left_by kind) (Tells kind (step slots p a b none) me)
  made kind a b may s r _ at _ = (
    map (known_after kind p (get_or s.words p 0)) me.0,
    keeps,
    tt,
    keeps_rule n s r p id me.0 at below kind may,
    (shown_to n s r p id me.0 at, refl, refl),
  )

  pub looks : Allows (LifeRule n) slots id me p (λ w. w) (looked (step slots p 0 0 none) me)
  looks = made look 0 0 tt

  pub takes : MayMake take_home p me.0 → Allows (LifeRule n) slots id me p (λ w. w) (took (step slots p 0 0 none) me)
  takes = made take_home 0 0

  pub opens : (live : ℕ) → MayMake (open_as live) p me.0 → Allows (LifeRule n) slots id me p (λ _. live) (λ _. opened (step slots p live 0 none) me live)
  opens live may s r _ at _ = (
    map (known_after (open_as live) p (get_or s.words p 0)) me.0,
    keeps,
    tt,
    keeps_rule n s r p id me.0 at below (open_as live) may,
    ((get_or s.words p 0, shown_to n s r p id me.0 at), refl, refl),
  )

  -- an exchange
  swapped : (kind : WordStep) (old : ℕ) → ((w : ℕ) → left_by kind w ≡ either (eqb w old) (old - 1) w) → MayMake kind p me.0
      → Allows (LifeRule n) slots id me p (λ w. either (eqb w old) (old - 1) w) (Tells kind (step slots p old (old - 1) none) me)
  swapped kind old same may s r _ at _ = let w : ℕ = get_or s.words p 0 in (
    map (known_after kind p w) me.0,
    keeps,
    tt,
    subst (λ (z : ℕ). LifeRule n (after s p z id (map (known_after kind p w) me.0))) (same w) (keeps_rule n s r p id me.0 at below kind may),
    (shown_to n s r p id me.0 at, refl, refl),
  )

  exchange_is : (old w : ℕ) → left_by (close_from old) w ≡ either (eqb w old) (old - 1) w
  exchange_is old w = exchanged w old (old - 1) (λ z. left_by (close_from old) w ≡ z)
      (λ hit. rw (eq-eqb w old hit) refl)
      (λ miss. rw (ne_eqb w old miss) refl)

  pub closes : (old : ℕ) → MayMake (close_from old) p me.0 → Allows (LifeRule n) slots id me p (λ w. either (eqb w old) (old - 1) w) (closed (step slots p old (old - 1) none) me)
  closes old may = swapped (close_from old) old (exchange_is old) may

  pub parts : (old : ℕ) → MayMake (part_from old) p me.0 → Allows (LifeRule n) slots id me p (λ w. either (eqb w old) (old - 1) w) (parted (step slots p old (old - 1) none) me)
  parts old may = swapped (part_from old) old (exchange_is old) may

  -- a look of a seat that took in another
  pub meetings : Allows (LifeRule n) slots id me p (λ w. w) (met (step slots p 0 0 none) me)
  meetings s r long at fits = let l = looks s r long at fits in
      (l.0, l.1, l.2, l.3, (l.4, are_apart n s r id me.0 at))
