-- A bank of one core answers as that core does.
use Rattle.std.proofs.Common.{◌≡◌, inl, inr, ℕ, ◌<◌, ◌&&◌, Bool, [], ◌∷◌, length}
use Rattle.std.proofs.Common.{is_none, is_some, Some, None, nat_lt, if◌then◌else◌, refl}
use Rattle.std.proofs.Common.{sym, ap, subst, ◌∙◌, arith}
use Rattle.std.specs.Prelude.{slice_get, slice_set}
use Rattle.std.proofs.lemmas.Option.{none-some, same_Some}
use Rattle.std.proofs.lemmas.List.Sums.{sum_by-cons}
use Rattle.hg_choice.specs.ChosenSteps.{ChosenStep}
use Rattle.hg_choice.proofs.MaskedSteps.{refused_step}
use Rattle.hg_choice.proofs.Refusing.{refusal_leaves}
use Rattle.hg_place.specs.declared.Actor.{Actor}
use Rattle.hg_machine.specs.declared.AllocVerdict.{AllocVerdict}
use Rattle.hg_machine.specs.declared.AllocVerdict.TheVariants as verdict
use Rattle.hg_machine.specs.declared.Answer.{Answer}
use Rattle.hg_machine.specs.declared.Answer.TheVariants as answer
use Rattle.hg_machine.specs.declared.Event.{Event}
use Rattle.hg_machine.specs.Charge.{charge}
use Rattle.hg_machine.specs.First.{first_of}
use Rattle.hg_machine.specs.Holders.{next_of}
use Rattle.hg_machine.specs.Lists.{Kept}
use Rattle.hg_machine.specs.Refusal.{refusal, alloc_refusal}
use Rattle.hg_machine.specs.Request.{alloc_verdict, words_for}
use Rattle.hg_machine.specs.Room.{has_room}
use Rattle.hg_laws.proofs.Refusals.{refused_is}
use Rattle.hg_bank.specs.Laws.{IsOfFirst, OneCoreIsACore}
use Rattle.hg_bank.specs.Requests.{Request, alloc, refill, named, event_of, server}
use Rattle.hg_bank.specs.Requests.{unserved, core_with_room, alloc_refused, bank_verdict}
use Rattle.hg_bank.specs.Sound.{IsCoreOf, IsSoundBank}
use Rattle.hg_bank.specs.State.{BankState, charge_over}
use Rattle.hg_bank.specs.Steps.{IsServedBy, BankStep}
use Rattle.hg_bank.proofs.RoomLemmas.{none_passes, not_some}
use Rattle.hg_bank.proofs.StepCases.{step_cases, cores_after, core_below, at_number}

-- a core that refuses stays as it was
refuses : (k : Kept) (worker : ℕ) (e : Event) (a : Answer) → refusal k.state worker e ≡ Some a
    → ChosenStep k worker e a k
refuses k worker e a some =
    let leaves = refusal_leaves k worker e a (refused_is k.state worker e a some) in
    record {
      step = refused_step k.state worker e a k.state some refl;
      chosen = leaves.2;
      lists = sym leaves.0;
      queues = sym leaves.1;
    }

module _ {old : BankState} (worker : ℕ) {k : Kept} (sound : IsSoundBank old)
    (one : old.cores ≡ k ∷ []) (serves : k.state.policy ≡ old.policy) where
  there : slice_get old.cores 0 ≡ Some k
  there = ap (λ xs. slice_get xs 0) one

  -- the verdict by what counts over all cores is the core's
  same_verdict : (actor : Actor) (arena bytes : ℕ)
      → bank_verdict old worker actor arena bytes
      ≡ alloc_verdict k.state.policy actor.0 arena (words_for bytes) (charge k.state worker actor.0)
  same_verdict actor arena bytes =
      let sum = sum_by-cons (λ x. charge x.state worker actor.0) k [] in
      ap (λ xs. alloc_verdict old.policy actor.0 arena (words_for bytes)
      (charge_over xs worker actor.0)) one
      ∙ ap (alloc_verdict old.policy actor.0 arena (words_for bytes)) (sum ∙ omega arith)
      ∙ ap (λ p. alloc_verdict p actor.0 arena (words_for bytes) (charge k.state worker actor.0))
      (sym serves)

  -- an event that names the core is served
  named_first : (core : ℕ) (e : Event) → IsOfFirst (named core e)
      → server old worker (named core e) ≡ Some core
  named_first core e first =
      let long = ap length one in
      ap (λ b. if b && nat_lt core (length old.cores) then Some core else None) first.1
      ∙ ap (λ n. if nat_lt n (length old.cores) then Some core else None) first.0
      ∙ ap (λ n. if nat_lt 0 n then Some core else None) long

  -- an allocation that no core serves is refused so by the one
  no_block : (arena : ℕ) (v : AllocVerdict) → core_with_room old worker arena v ≡ None
      → alloc_refusal k.state worker arena v ≡ Some (alloc_refused v)
  no_block arena (verdict.Denied rule) none = refl
  no_block arena verdict.TooLarge none = refl
  no_block arena (verdict.Fits size) none =
      ap (λ b. if b then None else Some answer.NoRoom)
      (none_passes old worker arena 0 k (λ x. has_room x.state worker arena size) sound there none)

  refused : (request : Request) → IsOfFirst request → server old worker request ≡ None
      → refusal k.state worker (event_of request) ≡ Some (unserved old worker request)
  refused (alloc actor arena bytes) first none =
      let v = bank_verdict old worker actor arena bytes in
      ap (alloc_refusal k.state worker arena) (sym (same_verdict actor arena bytes))
      ∙ no_block arena v none
  refused (refill arena) first none =
      let test : Kept → Bool = λ x. is_some (next_of x.state arena) in
      ap (λ o. first_of ((is_none o, answer.NoSegment) ∷ []))
      (not_some (next_of k.state arena)
      (none_passes old worker arena 0 k test sound there none))
  refused (named core e) first none =
      absurd (none-some core (sym none ∙ named_first core e first))

  served : (request : Request) (told : Answer) (new : BankState) (core : ℕ)
      → IsServedBy old worker request told new core
      → (next : Kept) × ChosenStep k worker (event_of request) told next × (new.cores ≡ next ∷ [])
  served request told new core is =
      let below = subst (λ xs. core < length xs) one (core_below is) in
      let at : core ≡ 0 = omega arith in
      let same = same_Some is.was k
      (sym is.there ∙ ap (slice_get old.cores) at ∙ there) in (
        is.next,
        subst (λ x. ChosenStep x worker (event_of request) told is.next) same is.step,
        cores_after old worker request told new core is
            ∙ ap (λ xs. slice_set xs core is.next) one
            ∙ ap (λ n. slice_set (k ∷ []) n is.next) at,
      )

  step_of_one : (request : Request) (told : Answer) (new : BankState) → IsOfFirst request
      → BankStep old worker request told new
      → (next : Kept) × ChosenStep k worker (event_of request) told next × (new.cores ≡ next ∷ [])
  step_of_one request told new first step =
      elim (step_cases old worker request told new step) as
      (λ _. (next : Kept) × ChosenStep k worker (event_of request) told next
      × (new.cores ≡ next ∷ [])) [
        | inr by ↦ served request told new by.0 by.2
        | inl none ↦ (
          k,
          refuses k worker (event_of request) told
              (refused request first none.0 ∙ ap Some (sym none.1.0)),
          ap (λ b. b.cores) none.1.1 ∙ one,
        )
      ]

pub one_core_is_a_core : OneCoreIsACore
one_core_is_a_core old new worker request told k sound one first step =
    let own = at_number (IsCoreOf old.policy) old.cores 0 k sound.cores
    (ap (λ xs. slice_get xs 0) one) in
    step_of_one worker sound one own.policy request told new first step
