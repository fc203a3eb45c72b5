-- What a segment's seat may do at a place, and what its steps tell.
use Rattle.std.proofs.Common.{◌≡◌, ◌≢◌, ℕ, ◌+◌, ◌-◌, Bool, false, List, [], ◌∷◌, map, sym, refl, ap, ◌∙◌, subst, eq-eqb, ne_eqb}
use mathlib.Core.Logic.{dite}
use native.Mathlib.Decide.{ℕ_discrete}
use lib.ListN.{get_elem?}
use Rattle.hg_place.specs.Lives.{word_generation, word_owner, word_life}
use Rattle.hg_place.specs.declared.standing.Standing.TheVariants.{Open}
use Rattle.hg_machine.specs.Policy.{Policy}
use Rattle.hg_table.specs.declared.view.Part as life
use Rattle.hg_table.specs.Steps.{WordStep, open_as, close_from, take_home, known_after, view_after, left_by, MayMake, MayMakeBy}
use Rattle.hg_table.specs.Told.{IsShown, IsShownTo}
use Rattle.hg_table.specs.Seats.{word_at, HasStepped}
use Rattle.hg_table.specs.View.{View, saw, recording, part_of}
use Rattle.hg_table.proofs.Told.{one_shown, not_ended}
use Rattle.hg_run_table.specs.declared.part.Part.{Part}
use Rattle.hg_run_table.specs.declared.table.RunSeat.{RunSeat}
use Rattle.hg_run_table.specs.Asked.{MayLeave, HasLeft, HasLeftIf, is_asked}
use Rattle.hg_run_table.specs.Found.{IsFound}
use Rattle.hg_run_table.specs.Segments.{place_at, SeatMayLeave, StepsIn}

-- the first part of a seat of one part steps as the seat does
pub by_first : (step : WordStep) (p w : ℕ) (v v' : View) → v ≡ part_of v ∷ [] → v' ≡ view_after 0 step p w v → v' ≡ map (known_after step p w) v
by_first step p w v v' one is = is ∙ ap (view_after 0 step p w) one ∙ ap (map (known_after step p w)) (sym one)

pub first_may_open : (p live : ℕ) (v : View) → MayMake (open_as live) p v → MayMakeBy 0 (open_as live) p v
first_may_open p live v may = (may.0.0, part_of v, ap (λ (z : View). get_elem? z 0) may.0.1, may.1)

pub first_may_close : (p old : ℕ) (v : View) → MayMake (close_from old) p v → MayMakeBy 0 (close_from old) p v
first_may_close p old v may = (may.0.0, part_of v, ap (λ (z : View). get_elem? z 0) may.0.1, may.1)

pub first_may_take : (p : ℕ) (v : View) → MayMake take_home p v → MayMakeBy 0 take_home p v
first_may_take p v may = (may.0.0, part_of v, ap (λ (z : View). get_elem? z 0) may.0.1, may.1)

-- a store tells what it left
pub opened_over : (p u x : ℕ) (v v' : View) → v ≡ part_of v ∷ [] → word_life x ≡ 1 → v' ≡ map (known_after (open_as x) p x) v → HasStepped (part_of v) p u x (part_of v')
opened_over p u x v v' one live is = let f : life.Part → life.Part = λ part. recording p (Open (word_generation x) (word_owner x)) (saw p x part) in
    let now : part_of v' ≡ f (part_of v) = ap part_of is ∙ ap (λ (z : View). part_of (map f z)) one in
    subst (HasStepped (part_of v) p u x) (sym now) (refl, refl, sym (not_ended p u x (part_of v).ended (λ _. live)))

-- an exchange
left_hit : (expected word : ℕ) → word ≡ expected → left_by (close_from expected) word ≡ expected - 1
left_hit expected word e = rw (eq-eqb word expected e) refl

left_miss : (expected word : ℕ) → word ≢ expected → left_by (close_from expected) word ≡ word
left_miss expected word ne = rw (ne_eqb word expected ne) refl

pub answered_hit : (n word expected : ℕ) (old new : List Part) → word ≡ expected → HasLeft n word (left_by (close_from expected) word) old new → HasLeft n expected (expected - 1) old new
answered_hit n word expected old new e h = subst (λ (z : ℕ). HasLeft n z (expected - 1) old new) e (subst (λ (z : ℕ). HasLeft n word z old new) (left_hit expected word e) h)

pub answered_miss : (n word expected : ℕ) (old new : List Part) → word ≢ expected → HasLeft n word (left_by (close_from expected) word) old new → HasLeft n word word old new
answered_miss n word expected old new ne h = subst (λ (z : ℕ). HasLeft n word z old new) (left_miss expected word ne) h

-- where none is asked anything
pub quiet_left : (n word : ℕ) (old new : List Part) → is_asked old ≡ false → new ≡ old → HasLeft n word word old new
quiet_left n word old new quiet same = subst (λ (b : Bool). HasLeftIf b n word word old new) (sym quiet) same

module _ (segment slot number : ℕ) (seat : RunSeat) (one : seat.seat.me.0.lives ≡ part_of seat.seat.me.0.lives ∷ []) (is : number ≡ place_at segment slot) where
  -- what the seat may leave at its place it may leave at the place of that number
  pub answers : (policy key : Policy) (left : ℕ → ℕ) → policy ≡ key
      → ((word : ℕ) → IsShown (word_at segment slot) word (part_of seat.seat.me.0.lives) → SeatMayLeave policy segment seat slot word (left word))
      → (word : ℕ) → IsShownTo (number + 1) word seat.seat.me.0.lives → MayLeave key number word (left word) seat.seat.me.0.run
  answers policy key left same allowed word shown = subst (λ (k : Policy). MayLeave k number word (left word) seat.seat.me.0.run) same
      (subst (λ (n : ℕ). MayLeave policy n word (left word) seat.seat.me.0.run) (sym is)
      (allowed word (one_shown (word_at segment slot) word seat.seat.me.0.lives one (subst (λ (n : ℕ). IsShownTo (n + 1) word seat.seat.me.0.lives) is shown))))

  -- and by an exchange, if it may where that hits and where it misses
  pub closing : (policy : Policy) (expected : ℕ)
      → (IsShown (word_at segment slot) expected (part_of seat.seat.me.0.lives) → SeatMayLeave policy segment seat slot expected (expected - 1))
      → ((word : ℕ) → word ≢ expected → IsShown (word_at segment slot) word (part_of seat.seat.me.0.lives) → SeatMayLeave policy segment seat slot word word)
      → (word : ℕ) → IsShown (word_at segment slot) word (part_of seat.seat.me.0.lives) → SeatMayLeave policy segment seat slot word (left_by (close_from expected) word)
  closing policy expected hit miss word shown = dite (ℕ_discrete word expected)
      (λ e. subst (λ (z : ℕ). SeatMayLeave policy segment seat slot word z) (sym (left_hit expected word e))
      (subst (λ (z : ℕ). SeatMayLeave policy segment seat slot z (expected - 1)) (sym e) (hit (subst (λ (z : ℕ). IsShown (word_at segment slot) z (part_of seat.seat.me.0.lives)) e shown))))
      (λ ne. subst (λ (z : ℕ). SeatMayLeave policy segment seat slot word z) (sym (left_miss expected word ne)) (miss word ne shown))

  -- what the step tells at the number it tells at the place
  pub stepped : (found left : ℕ) (new : RunSeat)
      → HasStepped (part_of seat.seat.me.0.lives) (number + 1) found left (part_of new.seat.me.0.lives)
      → HasLeft number found left seat.seat.me.0.run new.seat.me.0.run
      → IsFound number found seat.seat.me.0.run
      → new.seat.table_id ≡ seat.seat.table_id
      → StepsIn segment slot found left seat new
  stepped found left new step answered was same = record {
    step = subst (λ (n : ℕ). HasStepped (part_of seat.seat.me.0.lives) (n + 1) found left (part_of new.seat.me.0.lives)) is step;
    answered = subst (λ (n : ℕ). HasLeft n found left seat.seat.me.0.run new.seat.me.0.run) is answered;
    agreed = subst (λ (n : ℕ). IsFound n found seat.seat.me.0.run) is was;
    same = same;
  }

  pub shown_at : (word : ℕ) → IsShownTo (number + 1) word seat.seat.me.0.lives → IsShown (word_at segment slot) word (part_of seat.seat.me.0.lives)
  shown_at word shown = one_shown (word_at segment slot) word seat.seat.me.0.lives one (subst (λ (n : ℕ). IsShownTo (n + 1) word seat.seat.me.0.lives) is shown)
