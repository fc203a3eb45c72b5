-- What a table asks of a step at the word of a place that answers what a worker is asked.
use Rattle.std.proofs.Common.{◌≡◌, ℕ, ◌+◌, ◌-◌, ◌<◌, eqb, Bool, true, false, List, get_or, set, map}
use Rattle.std.proofs.Common.{refl, sym, subst, arith}
use Rattle.std.proofs.lemmas.List.{set-get_or}
use mathlib.Core.Option.{none, some}
use lib.ListN.{get_elem?}
use prog.Atomic.{either}
use Rattle.atomic_table.specs.Table.{step, keeps, stepped, Allows}
use Rattle.atomic_table.proofs.Lists.{set_again}
use Rattle.hg_machine.specs.declared.Event.{Event}
use Rattle.hg_machine.specs.Policy.{Policy}
use Rattle.hg_history.specs.OneRun.{IsOneRun}
use Rattle.hg_roles.specs.Served.{places_of_policy}
use Rattle.hg_table.specs.LifeRule.{LifeRule}
use Rattle.hg_table.specs.Steps.{WordStep, look, open_as, left_by}
use Rattle.hg_table.specs.Steps.{known_after, view_after, MayMakeBy}
use Rattle.hg_table.specs.Told.{IsShownTo}
use Rattle.hg_table.specs.View as lives
use Rattle.hg_table.proofs.WordSteps.{after}
use Rattle.hg_run_table.specs.declared.part.Part.{Part}
use Rattle.hg_run_table.specs.declared.part.SeatView.{SeatView}
use Rattle.hg_run_table.specs.Asked.{MayLeave, MayLeaveIf, HasLeft, HasLeftIf, is_asked, asking}
use Rattle.hg_run_table.specs.Rule.{Table, lives_of, KeepsBoth}
use Rattle.hg_run_table.specs.Seated.{seated}
use Rattle.hg_run_table.specs.Told.{Mine, looked_answering, opened_answering, exchanged_answering}
use Rattle.hg_run_table.specs.Told.{asks}
use Rattle.hg_run_table.proofs.Allowed.{runs, known, set_both, run_at, lives_at, shown}
use Rattle.hg_run_table.proofs.Allowed.{stepped_lives, seen_lives, found_behind}
use Rattle.hg_run_table.proofs.Answering.{keeps_answering, keeps_asking, was_answered}

-- at the spare word all words stay, and what the seat knows of words and lives
pub asks_anew : (policy : Policy) (slots id : ℕ) (me : Mine) (asked : List (List Event))
    → Allows (KeepsBoth policy) slots id me 0 (λ w. w) (asks asked (step slots 0 0 0 none) me)
asks_anew policy slots id me asked s r _ seat _ =
    let w : ℕ = get_or s.words 0 0 in
    let new : SeatView = record { lives = me.0.lives; run = map (asking asked) me.0.run } in (
      new,
      keeps,
      tt,
      subst
          (λ (ws : List ℕ).
          KeepsBoth policy
          (record { words = ws; homes = s.homes; views = set s.views id new }))
          (sym (set-get_or s.words 0 0))
          (set_both policy s.words s.homes s.views id new
          (subst
          (λ (vs : List lives.View).
          LifeRule (places_of_policy policy)
          (record { words = s.words; homes = s.homes; views = vs }))
          (sym (set_again (known s.views) id me.0.lives (lives_at policy slots id me s.views seat))) r.lives)
          (keeps_asking policy s.words (runs s.views) id me.0.run r.run (run_at policy slots id me s.views seat) asked)),
      (refl, refl, refl),
    )

module _ (policy : Policy) (slots id : ℕ) (me : Mine) (place : ℕ)
    (inside : place < places_of_policy policy) where
  within : place + 1 < places_of_policy policy + 1
  within = omega (arith, inside)

  -- the place is known by its word
  placed : (P : ℕ → Type 0) → P place → (other : ℕ) → place + 1 ≡ other + 1 → P other
  placed P it other e = let is : place ≡ other = omega (arith, e) in subst P is it

  -- a view with which both rules are kept, by which it was answered
  record KeptAnswering (s : Table) (later : List ℕ) (found left : ℕ) (view : lives.View)
      : Type 0 where
    pub run : List Part
    pub both :
        KeepsBoth policy
        (record {
          words = later;
          homes = s.homes;
          views = set s.views id (record { lives = view; run = run });
        })
    pub was : HasLeft place found left me.0.run run

  -- what is asked is answered, or all parts stay
  left_if : (b : Bool) (left : ℕ) (s : Table) → KeepsBoth policy s
      → get_elem? s.views id ≡ some me.0
      → MayLeaveIf b policy place (get_or s.words (place + 1) 0) left me.0.run
      → (run : List Part)
      × IsOneRun (seated policy) (set s.words (place + 1) left) (set (runs s.views) id run)
      × HasLeftIf b place (get_or s.words (place + 1) 0) left me.0.run run
  left_if true left s r seat may = (
    _,
    keeps_answering policy s.words (runs s.views) id me.0.run r.run (run_at policy slots id me s.views seat) place left
        inside may,
    was_answered policy s.words (runs s.views) id me.0.run r.run (run_at policy slots id me s.views seat) place left
        inside may,
  )
  left_if false left s r seat may = (
    me.0.run,
    subst
        (λ z.
        IsOneRun (seated policy) (set s.words (place + 1) z) (set (runs s.views) id me.0.run))
        (sym may)
        (subst (λ (z : List ℕ × List (List Part)). IsOneRun (seated policy) z.0 z.1)
        (λ k. (
          sym (set-get_or s.words (place + 1) 0) k,
          sym (set_again (runs s.views) id me.0.run (run_at policy slots id me s.views seat)) k,
        ))
        r.run),
    refl,
  )

  answers_at : (leaves : ℕ → ℕ)
      → ((word : ℕ) → IsShownTo (place + 1) word me.0.lives
      → MayLeave policy place word (leaves word) me.0.run)
      → (view : lives.View) → (s : Table) → KeepsBoth policy s
      → get_elem? s.views id ≡ some me.0
      → LifeRule (places_of_policy policy)
      (after (lives_of s) (place + 1) (leaves (get_or s.words (place + 1) 0)) id view)
      → KeptAnswering s (set s.words (place + 1) (leaves (get_or s.words (place + 1) 0)))
      (get_or s.words (place + 1) 0) (leaves (get_or s.words (place + 1) 0)) view
  answers_at leaves may view s r seat good =
      let w : ℕ = get_or s.words (place + 1) 0 in
      let later : List ℕ = set s.words (place + 1) (leaves w) in
      let k =
      left_if (is_asked me.0.run) (leaves w) s r seat (may w (shown policy slots id me s r seat (place + 1))) in
      record {
        run = k.0;
        both =
            set_both policy later s.homes s.views id (record { lives = view; run = k.0 }) good k.1;
        was = k.2;
      }

  pub looks_answering : (a b : ℕ)
      → ((word : ℕ) → IsShownTo (place + 1) word me.0.lives
      → MayLeave policy place word word me.0.run)
      → Allows (KeepsBoth policy) slots id me (place + 1) (λ w. w)
      (looked_answering (step slots (place + 1) a b none) me)
  looks_answering a b may s r _ seat _ =
      let w : ℕ = get_or s.words (place + 1) 0 in
      let view : lives.View = map (known_after look (place + 1) w) me.0.lives in
      let k =
      answers_at (λ w. w) may view s r seat (seen_lives policy slots id me (place + 1) within s r seat) in (
        record { lives = view; run = k.run },
        keeps,
        tt,
        k.both,
        (
          (shown policy slots id me s r seat (place + 1), refl, refl),
          placed (λ n. HasLeft n w w me.0.run k.run) k.was,
          found_behind policy slots id me (place + 1) within s r seat,
        ),
      )

  -- what an exchange keeps, by what it leaves
  exchanged_both : (kind : WordStep) (old : ℕ)
      → ((w : ℕ) → left_by kind w ≡ either (eqb w old) (old - 1) w)
      → (view : lives.View) → (s : Table)
      → (k : KeptAnswering s
      (set s.words (place + 1) (left_by kind (get_or s.words (place + 1) 0)))
      (get_or s.words (place + 1) 0) (left_by kind (get_or s.words (place + 1) 0)) view)
      → KeepsBoth policy
      (stepped s (place + 1)
      (either (eqb (get_or s.words (place + 1) 0) old) (old - 1) (get_or s.words (place + 1) 0))
      id me.1 (record { lives = view; run = k.run }) keeps)
  exchanged_both kind old same view s k =
      subst
      (λ z.
      KeepsBoth policy
      (stepped s (place + 1) z id me.1 (record { lives = view; run = k.run }) keeps))
      (same (get_or s.words (place + 1) 0)) k.both

  pub exchanges_answering : (kind : ℕ → WordStep)
      → ((old w : ℕ) → left_by (kind old) w ≡ either (eqb w old) (old - 1) w) → (by old : ℕ)
      → MayMakeBy by (kind old) (place + 1) me.0.lives
      → ((word : ℕ) → IsShownTo (place + 1) word me.0.lives
      → MayLeave policy place word (left_by (kind old) word) me.0.run)
      → Allows (KeepsBoth policy) slots id me (place + 1) (λ w. either (eqb w old) (old - 1) w)
      (exchanged_answering kind by (step slots (place + 1) old (old - 1) none) me)
  exchanges_answering kind same by old owes may s r _ seat _ =
      let w : ℕ = get_or s.words (place + 1) 0 in
      let view : lives.View = view_after by (kind old) (place + 1) w me.0.lives in
      let k =
      answers_at (left_by (kind old)) may view s r seat
      (stepped_lives policy slots id me (place + 1) within by (kind old) owes s r seat) in (
        record { lives = view; run = k.run },
        keeps,
        tt,
        exchanged_both (kind old) old (same old) view s k,
        (
          (shown policy slots id me s r seat (place + 1), refl, refl),
          placed (λ n. HasLeft n w (left_by (kind old) w) me.0.run k.run) k.was,
          found_behind policy slots id me (place + 1) within s r seat,
        ),
      )

  pub opens_answering : (by live : ℕ) → MayMakeBy by (open_as live) (place + 1) me.0.lives
      → ((word : ℕ) → IsShownTo (place + 1) word me.0.lives
      → MayLeave policy place word live me.0.run)
      → Allows (KeepsBoth policy) slots id me (place + 1) (λ _. live)
      (λ _. opened_answering by (step slots (place + 1) live 0 none) me live)
  opens_answering by live owes may s r _ seat _ =
      let w : ℕ = get_or s.words (place + 1) 0 in
      let view : lives.View = view_after by (open_as live) (place + 1) live me.0.lives in
      let k =
      answers_at (λ _. live) may view s r seat
      (stepped_lives policy slots id me (place + 1) within by (open_as live) owes s r seat) in (
        record { lives = view; run = k.run },
        keeps,
        tt,
        k.both,
        (
          (
            w,
            shown policy slots id me s r seat (place + 1),
            placed (λ n. HasLeft n w live me.0.run k.run) k.was,
            found_behind policy slots id me (place + 1) within s r seat,
          ),
          refl,
          refl,
        ),
      )
