-- What a call behind a lock does, and where it needs none.
use Rattle.std.proofs.Common.{◌≡◌, ℕ, ◌<◌, ◌++◌, Bool, true, false, cond, List, [], ◌∷◌}
use Rattle.std.proofs.Common.{Option, Some, None, length, find, is_some, refl, sym, ap, subst, ◌∙◌}
use Rattle.std.proofs.Common.{arith, inl, inr}
use Rattle.std.specs.Prelude.{option_map, Contains, IfSome}
use Rattle.std.specs.Option.{option_or}
use Rattle.std.proofs.lemmas.Bool.{cases_Bool, eqb-true, eq-eqb}
use Rattle.std.proofs.lemmas.List.Folds.{find-append, find_at}
use Rattle.std.proofs.lemmas.Option.{same_Some, none-some, slice_get_within}
use Rattle.hg_place.specs.declared.Handle.{Handle}
use Rattle.hg_place.specs.declared.Place.{Place}
use Rattle.hg_place.specs.declared.standing.Standing.{Standing}
use Rattle.hg_place.specs.Places.{number_of}
use Rattle.hg_machine.specs.declared.Answer.{Answer}
use Rattle.hg_machine.specs.declared.Answer.TheVariants as answer
use Rattle.hg_machine.specs.Policy.{Policy, arena_of}
use Rattle.hg_segment.specs.Kept.{Kept}
use Rattle.hg_heap.specs.Held.{Held, is_held, is_of, segment_in}
use Rattle.hg_heap.specs.Policies.{AreOf}
use Rattle.hg_heap.proofs.Founds.{Contains-get}
use Rattle.hg_pool.specs.Pooled.{Pooled, next_in, is_of_arena}
use Rattle.hg_remote.specs.Remote.{nothing_sent}
use Rattle.hg_table.specs.declared.view.Part.{Part}
use Rattle.hg_worker.specs.CallerLocked.{IsTakenFrom, IsRefilled, IsAbandoned}
use Rattle.hg_worker.specs.Had.{Had}
use Rattle.hg_worker.specs.Seats.{IsInReach}
use Rattle.hg_worker.proofs.Pools.{next_contained}
use Rattle.hg_service.specs.Behind.{Delivers, Takes, Abandons}

-- what isn't there is none
none_of : {X : Type 0} (o : Option X) → is_some o ≡ false → o ≡ None
none_of None e = refl
none_of (Some x) e = absurd (cc)

some_of : {X : Type 0} (o : Option X) → is_some o ≡ true → (x : X) × (o ≡ Some x)
some_of None e = absurd (cc)
some_of (Some x) e = (x, refl)

-- what is found passes
found_passes : {X : Type 0} (p : X → Bool) (xs : List X) (y : X) → find p xs ≡ Some y → p y ≡ true
found_passes p [] y e = absurd (none-some y e)
found_passes p (x ∷ xs) y e = elim (cases_Bool (p x)) as (λ _. p y ≡ true) [
  | inl t ↦
      let same : x ≡ y = same_Some x y (sym (ap (λ b. cond b (Some x) (find p xs)) t) ∙ e) in
      sym (ap p same) ∙ t
  | inr f ↦ found_passes p xs y (sym (ap (λ b. cond b (Some x) (find p xs)) f) ∙ e)
]

-- a hand with nothing in it delivers nothing
pub delivers_none : Delivers None answer.NothingInHand None
delivers_none = record { old = nothing_sent; new = nothing_sent; delivered = (refl, refl, refl) }

empty_hand : (hand : Option Handle) → None ≡ option_map (λ handle. handle.place) hand → hand ≡ None
empty_hand None e = refl
empty_hand (Some handle) e = absurd (none-some _ e)

pub delivers_nothing : (hand : Option Handle) → None ≡ option_map (λ handle. handle.place) hand
    → Delivers hand answer.NothingInHand hand
delivers_nothing hand e =
    subst (λ h. Delivers h answer.NothingInHand h) (sym (empty_hand hand e)) delivers_none

-- the segment of the place in hand is one of the policy
pub in_reach : (policy : Policy) (hand : Option Handle) (place : Place)
    → Some place ≡ option_map (λ handle. handle.place) hand → IsInReach policy hand
    → place.segment < length policy.segments
in_reach policy None place e reach = absurd (none-some _ (sym e))
in_reach policy (Some handle) place e reach =
    let same : place ≡ handle.place = same_Some _ _ e in
    let low = reach (number_of place) (ap (λ p. Some (number_of p)) (sym same)) in
    omega (arith, low)

module _ {S : Type 0} (number : S → ℕ) where
  -- a segment that is held is one of the policy
  pub held_within : (policy : Policy) (segments : List (Kept S)) (segment : ℕ)
      → is_held number segments segment ≡ true → AreOf number policy segments
      → segment < length policy.segments
  held_within policy segments segment held of =
      let there = some_of (segment_in number segments segment) held in
      let is : number there.0.slots ≡ segment =
      eqb-true (number there.0.slots) segment
      (found_passes (is_of number segment) segments there.0 there.1) in
      let contained : Contains segments there.0 =
      Contains-get segments _ there.0 (sym (find_at (is_of number segment) segments) ∙ there.1) in
      subst (λ n. n < length policy.segments) is
      (slice_get_within policy.segments (number there.0.slots) there.0.arena
      (of.arena there.0 contained))

  module _ (records : S → List Standing) (part : S → Part) (policy : Policy) (arena segment : ℕ)
      (old : Pooled S) (had had' : Had S) (of : AreOf number policy (old.orphans ++ old.fresh))
    where
      abbrev Came : Type 0
      Came =
          (arena_of policy segment ≡ Some arena)
          × (is_held number had.heap.segments segment ≡ false)
          × (is_held number had'.heap.segments segment ≡ true)

      came_of : (next : Option (Kept S)) (new : Pooled S) (result : Answer)
          → next_in old arena ≡ next → IsRefilled number records part next result old new had had'
          → IfSome next (λ one. is_held number had.heap.segments (number one.slots) ≡ false)
          → result ≡ answer.Refilled segment → Came
      came_of None new result is refilled unheld told =
          let bad : answer.NoSegment ≡ answer.Refilled segment = sym refilled.0 ∙ told in absurd (cc)
      came_of (Some one) new result is refilled unheld told =
          let same : answer.Refilled (number one.slots) ≡ answer.Refilled segment =
          sym refilled.0 ∙ told in
          let at : number one.slots ≡ segment = cc in
          let passes : one.arena ≡ arena =
          eqb-true one.arena arena
          (found_passes (is_of_arena arena) (old.orphans ++ old.fresh) one
          (find-append (is_of_arena arena) old.orphans old.fresh ∙ is)) in
          let away : is_held number had.heap.segments segment ≡ false =
          subst (λ n. is_held number had.heap.segments n ≡ false) at unheld in
          let come : Kept S = refilled.2 in
          let there : number come.slots ≡ segment =
          ap (λ rest. rest.number) refilled.3.rest ∙ at in
          let found : segment_in number had'.heap.segments segment ≡ Some come =
          ap (λ segments. segment_in number segments segment) refilled.4
          ∙ find-append (is_of number segment) had.heap.segments (come ∷ [])
          ∙ ap (λ o. option_or o (find (is_of number segment) (come ∷ [])))
          (none_of (segment_in number had.heap.segments segment) away)
          ∙ ap (λ b. cond b (Some come) None) (eq-eqb (number come.slots) segment there) in (
            ap (arena_of policy) (sym at)
                ∙ of.arena one (next_contained number old arena one is) ∙ ap Some passes,
            away,
            ap is_some found,
          )

      pub came : (new : Pooled S) (result : Answer)
          → IsRefilled number records part (next_in old arena) result old new had had'
          → IfSome (next_in old arena)
          (λ one. is_held number had.heap.segments (number one.slots) ≡ false)
          → result ≡ answer.Refilled segment → Came
      came new result = came_of (next_in old arena) new result refl

  -- a segment that isn't held is taken nothing in for, and goes nowhere
  pub takes_nothing : (records : S → List Standing) (shows : S → ℕ → ℕ → Type 0)
      (steps : S → ℕ → ℕ → ℕ → S → Type 0) (segment : ℕ) (heap : Held S)
      → is_held number heap.segments segment ≡ false
      → Takes number records shows steps segment answer.NotHeld heap heap
  takes_nothing records shows steps segment heap away = record {
    old = nothing_sent;
    new = nothing_sent;
    taken =
        subst (λ b. IsTakenFrom number records shows steps b segment answer.NotHeld nothing_sent
        nothing_sent heap heap) (sym away) (refl, refl, refl);
    whole = λ count e. absurd (cc);
    home = λ place before after was given now back.
        let same : before ≡ after = same_Some _ _ (sym was ∙ now) in absurd (cc);
  }

  pub abandons_nothing : (segment : ℕ) (heap : Held S)
      → is_held number heap.segments segment ≡ false
      → Abandons number segment answer.NotHeld heap heap
  abandons_nothing segment heap away =
      let empty : Pooled S = record { orphans = []; fresh = [] } in
      record {
        old = empty;
        new = empty;
        abandoned =
            subst (λ o. IsAbandoned number segment o answer.NotHeld empty empty heap heap)
            (sym (none_of (segment_in number heap.segments segment) away)) (refl, refl, refl);
      }
