-- A live block changes by a served Free or Write of that life alone.
use Rattle.std.proofs.Common.{◌≡◌, ◌≢◌, ◌⊎◌, inl, inr, ℕ, ◌==◌, true}
use Rattle.std.proofs.Common.{List, [], ◌∷◌, Some, None, refl, sym, ap, subst, ◌∙◌, arith, suc, All}
use Rattle.std.proofs.lemmas.Bool.{cases_Bool, and_parts, eqb-true, true≢false}
use Rattle.hg_place.specs.declared.Right.TheVariants as right
use Rattle.hg_place.specs.Places.{number_of}
use Rattle.hg_machine.specs.declared.Event.{Event}
use Rattle.hg_machine.specs.declared.Event.TheVariants as event
use Rattle.hg_machine.specs.declared.Answer.{Answer}
use Rattle.hg_machine.specs.Policy.{Policy}
use Rattle.hg_machine.specs.Life.{is_live, owner_of}
use Rattle.hg_machine.specs.State.{State, record_at}
use Rattle.hg_machine.specs.Holders.{holds}
use Rattle.hg_machine.specs.Refusal.{refusal}
use Rattle.hg_machine.specs.Served.{IsServed}
use Rattle.hg_machine.specs.Steps.{Step}
use Rattle.hg_machine.specs.LifeLaws.{may_touch}
use Rattle.hg_machine.proofs.Allowed.{allowed, no_denial}
use Rattle.hg_machine.proofs.Cases.{step_cases}
use Rattle.hg_machine.proofs.Follows.{others_leave_it}
use Rattle.hg_machine.proofs.Preserves.{steps_keep_policy}
use Rattle.hg_laws.specs.Asked.{actor_of}
use Rattle.hg_laws.specs.Along.{AtSome}
use Rattle.hg_laws.specs.Integrity.{Touches, TouchesAt, BlocksAreKept, LetsNobody}
use Rattle.hg_laws.specs.Integrity.{OthersChangeNothing}
use Rattle.hg_laws.proofs.MachineFacts.{permitted, free_cases}

-- what may touch the block and is served touches it
touched : (s : State) (w : ℕ) (e : Event) (a : Answer) (place : ℕ) → may_touch s e place ≡ true → refusal s w e ≡ None → IsServed s w e a
    → TouchesAt s place e a
touched s w (event.Free actor handle) a place may none is =
    let here = eqb-true _ _ (and_parts (number_of handle.place == place) _ may).0 in
    let free = (no_denial _ _ none).0 in
    let seen = allowed s actor.0 right.Free handle.place handle.generation free in
    subst (λ q. TouchesAt s q (event.Free actor handle) a) here
    (record { place_is = refl; life_is = sym seen.generation }, permitted s actor.0 right.Free handle.place handle.generation free, free_cases (holds s w handle.place.segment) a is)
touched s w (event.Write actor handle index value) a place may none is =
    let here = eqb-true _ _ (and_parts (number_of handle.place == place) _ may).0 in
    let free = (no_denial _ _ none).0 in
    let seen = allowed s actor.0 right.Write handle.place handle.generation free in
    subst (λ q. TouchesAt s q (event.Write actor handle index value) a) here
    (record { place_is = refl; life_is = sym seen.generation }, permitted s actor.0 right.Write handle.place handle.generation free, is)
touched s w (event.Alloc actor arena bytes) a place may none is = absurd (cc)
touched s w event.Deliver a place may none is = absurd (cc)
touched s w (event.Take segment) a place may none is = absurd (cc)
touched s w event.Collect a place may none is = absurd (cc)
touched s w (event.Read actor handle index) a place may none is = absurd (cc)
touched s w (event.Look actor at) a place may none is = absurd (cc)
touched s w (event.Abandon segment) a place may none is = absurd (cc)
touched s w (event.Refill arena) a place may none is = absurd (cc)

-- in a step a live block stays, or is touched
pub kept_or_touched : (s : State) (w : ℕ) (e : Event) (a : Answer) (new : State) (place : ℕ) → is_live (record_at s place).life ≡ true → Step s w e a new
    → (record_at new place ≡ record_at s place) ⊎ TouchesAt s place e a
kept_or_touched s w e a new place alive h =
    elim (cases_Bool (may_touch s e place)) as (λ _. (record_at new place ≡ record_at s place) ⊎ TouchesAt s place e a) [
      | inr never ↦ inl (others_leave_it s w e a new place alive never h)
      | inl may ↦ elim (step_cases s w e a new h) as (λ _. (record_at new place ≡ record_at s place) ⊎ TouchesAt s place e a) [
        | inl is ↦ inr (touched s w e a place may is.none is.serves)
        | inr is ↦ inl (ap (λ t. record_at t place) is.same)
      ]
    ]

-- the same block in a state with the same policy and the same record
touched_before : (s mid : State) (place : ℕ) (events : List (ℕ × Event)) (answers : List Answer) → mid.policy ≡ s.policy → record_at mid place ≡ record_at s place
    → AtSome (TouchesAt mid place) events answers → AtSome (TouchesAt s place) events answers
touched_before s mid place events answers policy same later =
    subst (λ r. AtSome (Touches s.policy place r.generation (owner_of r.life)) events answers) same
    (subst (λ p. AtSome (Touches p place (record_at mid place).generation (owner_of (record_at mid place).life)) events answers) policy later)

pub blocks_are_kept : BlocksAreKept
blocks_are_kept old [] [] new place alive run = inl (ap (λ t. record_at t place) run)
blocks_are_kept old [] (a ∷ rest) new place alive run = absurd run
blocks_are_kept old (e ∷ es) [] new place alive run = absurd run
blocks_are_kept old (e ∷ es) (a ∷ rest) new place alive run =
    elim (kept_or_touched old e.0 e.1 a run.0 place alive run.1) as (λ _. (record_at new place ≡ record_at old place) ⊎ AtSome (TouchesAt old place) (e ∷ es) (a ∷ rest)) [
      | inr now ↦ inr (inl now)
      | inl same ↦ elim (blocks_are_kept run.0 es rest new place (ap (λ r. is_live r.life) same ∙ alive) run.2) as (λ _. (record_at new place ≡ record_at old place) ⊎ AtSome (TouchesAt old place) (e ∷ es) (a ∷ rest)) [
        | inl kept ↦ inl (kept ∙ same)
        | inr later ↦ inr (inr (touched_before old run.0 place es rest (steps_keep_policy old e.0 e.1 a run.0 run.1) same later))
      ]
    ]

-- nobody but the owner can touch a block of an owner that lets nobody
touched_by_owner : (p : Policy) (place generation owner : ℕ) (e : Event) (a : Answer) → LetsNobody p owner → actor_of e ≢ Some owner → Touches p place generation owner e a → ⊥
touched_by_owner p place g owner (event.Free actor handle) a alone other t =
    true≢false (sym t.1.allowed ∙ alone.no_free actor.0 (λ e. other (ap Some e)))
touched_by_owner p place g owner (event.Write actor handle index value) a alone other t =
    true≢false (sym t.1.allowed ∙ alone.no_write actor.0 (λ e. other (ap Some e)))
touched_by_owner p place g owner (event.Alloc actor arena bytes) a alone other t = t
touched_by_owner p place g owner event.Deliver a alone other t = t
touched_by_owner p place g owner (event.Take segment) a alone other t = t
touched_by_owner p place g owner event.Collect a alone other t = t
touched_by_owner p place g owner (event.Read actor handle index) a alone other t = t
touched_by_owner p place g owner (event.Look actor at) a alone other t = t
touched_by_owner p place g owner (event.Abandon segment) a alone other t = t
touched_by_owner p place g owner (event.Refill arena) a alone other t = t

never_touched : (p : Policy) (place generation owner : ℕ) (events : List (ℕ × Event)) (answers : List Answer) → LetsNobody p owner
    → All (λ e. actor_of e.1 ≢ Some owner) events → AtSome (Touches p place generation owner) events answers → ⊥
never_touched p place g owner [] [] alone other t = t
never_touched p place g owner [] (a ∷ rest) alone other t = t
never_touched p place g owner (e ∷ es) [] alone other t = t
never_touched p place g owner (e ∷ es) (a ∷ rest) alone other t = elim t as (λ _. ⊥) [
  | inl now ↦ touched_by_owner p place g owner e.1 a alone (other 0 e (omega arith)) now
  | inr later ↦ never_touched p place g owner es rest alone (λ k d h. other (suc k) d (omega arith)) later
]

pub others_change_nothing : OthersChangeNothing
others_change_nothing old events answers new place alive alone other run =
    elim (blocks_are_kept old events answers new place alive run) as (λ _. record_at new place ≡ record_at old place) [
      | inl kept ↦ kept
      | inr touched ↦ absurd (never_touched old.policy place _ _ events answers alone other touched)
    ]
