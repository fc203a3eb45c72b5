-- Facts of the machine that several laws use.
use Rattle.std.proofs.Common.{◌≡◌, ◌⊎◌, inl, inr, ℕ, ◌==◌, ◌&&◌, Option, Some, true, not, is_some, None}
use Rattle.std.proofs.Common.{sym, subst, arith}
use Rattle.std.proofs.lemmas.Bool.{eqb-true, not-false, and_parts, or_cases}
use Rattle.hg_place.specs.declared.Place.{Place}
use Rattle.hg_place.specs.declared.Right.{Right}
use Rattle.hg_place.specs.Places.{number_of, segment_of, page_of}
use Rattle.hg_place.specs.Slots.{Slot}
use Rattle.hg_machine.specs.Policy.{Policy, is_tenant, arena_of, grants, forbids, lets}
use Rattle.hg_machine.specs.Life.{owner_of}
use Rattle.hg_machine.specs.State.{State, record_at, class_at}
use Rattle.hg_machine.specs.declared.Answer.{Answer}
use Rattle.hg_machine.specs.declared.Answer.TheVariants as answer
use Rattle.hg_machine.specs.Holders.{holds, is_in_arena}
use Rattle.hg_machine.specs.Room.{suits, is_open_to, has_open, is_room}
use Rattle.hg_machine.specs.Denial.{is_admitted, denial_on, denial, slot_at}
use Rattle.hg_machine.proofs.Allowed.{step}
use Rattle.std.proofs.Common.{Bool, false, if◌then◌else◌}
use Rattle.hg_machine.specs.Life.{is_home}
use Rattle.std.proofs.Common.{List, [], ◌∷◌, ap, ◌∙◌}
use Rattle.hg_machine.specs.declared.Event.{Event}
use Rattle.hg_machine.specs.Steps.{Run}
use Rattle.hg_machine.proofs.Preserves.{steps_keep_policy}
use Rattle.hg_laws.specs.Integrity.{Permits}

-- the segment of a place, by its number
pub segment_is : (place : Place) → segment_of (number_of place) ≡ place.segment
segment_is place = let a = place.page_below in let b = place.index_below in omega arith

-- what isn't forbidden and is granted
let_by :
    (p : Policy) (owner actor : ℕ) (right : Right)
    → forbids p owner actor right ≡ false → grants p owner actor right ≡ true
    → lets p owner actor right ≡ true
let_by p owner actor right free granted =
    ap (λ b. not b && grants p owner actor right) free ∙ granted

-- what holds where no rule denies it
pub record Passes (p : Policy) (actor : ℕ) (right : Right) (segment expected : ℕ) (slot : Slot) : Type 0 where
  pub generation : slot.generation ≡ expected
  pub alive : slot.live ≡ true
  pub permits : Permits p segment slot.owner actor right

pub passes : (p : Policy) (actor : ℕ) (right : Right) (segment expected : ℕ) (slot : Slot)
    → denial_on p actor right segment expected slot ≡ None → Passes p actor right segment expected slot
passes p actor right segment expected slot e =
    let s1 = step (not (is_tenant p actor)) _ _ e in
    let s2 = step (not (is_some (arena_of p segment))) _ _ s1.1 in
    let s3 = step (not (slot.generation == expected)) _ _ s2.1 in
    let s4 = step (not slot.live) _ _ s3.1 in
    let s5 = step (not (is_admitted p (arena_of p segment) actor)) _ _ s4.1 in
    let s6 = step (forbids p slot.owner actor right) _ _ s5.1 in
    let s7 = step (not (grants p slot.owner actor right)) _ _ s6.1 in
    record {
      generation = eqb-true _ _ (not-false _ s3.0);
      alive = not-false _ s4.0;
      permits = record {
        tenant = not-false _ s1.0;
        admitted = not-false _ s5.0;
        allowed = let_by p slot.owner actor right s6.0 (not-false _ s7.0);
      };
    }

-- the same of a state, by the number of the place
pub permitted : (s : State) (actor : ℕ) (right : Right) (place : Place) (expected : ℕ)
    → denial s actor right place expected ≡ None
    → Permits s.policy (segment_of (number_of place)) (owner_of (record_at s (number_of place)).life) actor right
permitted s actor right place expected e =
    subst (λ g. Permits s.policy g (owner_of (record_at s (number_of place)).life) actor right) (sym (segment_is place))
    (passes s.policy actor right place.segment expected (slot_at s (number_of place)) e).permits

open_home : (s : State) (worker arena size : ℕ) (wanted : Option ℕ) (p : ℕ) → is_open_to s worker arena size wanted p ≡ true → is_home (record_at s p).life ≡ true
open_home s worker arena size wanted p e =
    let a = and_parts (holds s worker (segment_of p)) _ e in
    let b = and_parts (is_in_arena s arena (segment_of p)) _ a.1 in
    let c = and_parts (suits (class_at s) size wanted (page_of p)) _ b.1 in
    let d = and_parts _ _ c.1 in
    (and_parts (is_home (record_at s p).life) _ d.1).0

-- a place with room is home
pub room_home : (s : State) (worker arena size p : ℕ) → is_room s worker arena size p ≡ true → is_home (record_at s p).life ≡ true
room_home s worker arena size p e = elim (or_cases (is_open_to s worker arena size (Some size) p) _ e) as (λ _. is_home (record_at s p).life ≡ true) [
  | inl o ↦ open_home s worker arena size (Some size) p o
  | inr o ↦ open_home s worker arena size None p ((and_parts (not (has_open s worker arena size (Some size))) _ o).1)
]

-- the two answers of a served Free
pub free_cases : (b : Bool) (a : Answer) → a ≡ (if b then answer.Done else answer.Parted) → (a ≡ answer.Done) ⊎ (a ≡ answer.Parted)
free_cases true a e = inl e
free_cases false a e = inr e

-- a run leaves the policy
pub policy_kept : (s : State) (events : List (ℕ × Event)) (answers : List Answer) (new : State) → Run s events answers new → new.policy ≡ s.policy
policy_kept s [] [] new run = ap (λ t. t.policy) run
policy_kept s [] (a ∷ rest) new run = absurd run
policy_kept s (e ∷ es) [] new run = absurd run
policy_kept s (e ∷ es) (a ∷ rest) new run = policy_kept run.0 es rest new run.2 ∙ steps_keep_policy s e.0 e.1 a run.0 run.1

open_arena : (s : State) (worker arena size : ℕ) (wanted : Option ℕ) (p : ℕ) → is_open_to s worker arena size wanted p ≡ true → is_in_arena s arena (segment_of p) ≡ true
open_arena s worker arena size wanted p e = (and_parts (is_in_arena s arena (segment_of p)) _ (and_parts (holds s worker (segment_of p)) _ e).1).0

-- and lies in the arena
pub room_arena : (s : State) (worker arena size p : ℕ) → is_room s worker arena size p ≡ true → is_in_arena s arena (segment_of p) ≡ true
room_arena s worker arena size p e = elim (or_cases (is_open_to s worker arena size (Some size) p) _ e) as (λ _. is_in_arena s arena (segment_of p) ≡ true) [
  | inl o ↦ open_arena s worker arena size (Some size) p o
  | inr o ↦ open_arena s worker arena size None p ((and_parts (not (has_open s worker arena size (Some size))) _ o).1)
]
