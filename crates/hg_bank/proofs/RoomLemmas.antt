-- What was asked for no core has, where none serves.
use Rattle.std.proofs.Common.{◌≡◌, inl, inr, ℕ, ◌<◌, Bool, true, false, is_some, length}
use Rattle.std.proofs.Common.{Option, Some, None, find, refl, sym, ap, ◌∙◌, arith}
use Rattle.std.specs.Prelude.{slice_get}
use Rattle.std.proofs.lemmas.Bool.{true≢false}
use Rattle.std.proofs.lemmas.List.Sums.{get_or-le-sum_by}
use Rattle.std.proofs.lemmas.Option.{slice_get_within, get_or_from_slice_get}
use Rattle.hg_place.specs.declared.Actor.{Actor}
use Rattle.hg_machine.specs.declared.AllocVerdict.{AllocVerdict}
use Rattle.hg_machine.specs.declared.AllocVerdict.TheVariants as verdict
use Rattle.hg_machine.specs.declared.Answer.TheVariants as answer
use Rattle.hg_machine.specs.declared.Event.TheVariants as event
use Rattle.hg_machine.specs.Charge.{charge}
use Rattle.hg_machine.specs.Holders.{next_of}
use Rattle.hg_machine.specs.Lists.{Kept}
use Rattle.hg_machine.specs.Request.{size_of}
use Rattle.hg_machine.specs.Room.{has_room}
use Rattle.hg_laws.proofs.Refusals.{was_refused}
use Rattle.hg_bank.specs.Laws.{AllWereAsked}
use Rattle.hg_bank.specs.Requests.{alloc, refill, server, passes, has_room_in}
use Rattle.hg_bank.specs.Requests.{bank_verdict, core_with_room, alloc_refused, asked}
use Rattle.hg_bank.specs.Sound.{IsCoreOf, IsSoundBank}
use Rattle.hg_bank.specs.State.{BankState, current_of, charge_over}
use Rattle.hg_bank.specs.Steps.{IsServedBy, BankStep}
use Rattle.hg_bank.proofs.AllocLemmas.{size_is, core_fits, passed_over}
use Rattle.hg_bank.proofs.AskedLemmas.{some_left}
use Rattle.hg_bank.proofs.LimitLemmas.{allowed}
use Rattle.hg_bank.proofs.Searches.{none_in_round}
use Rattle.hg_bank.proofs.StepCases.{step_cases, core_below, at_number}
use Rattle.hg_bank.proofs.UnusedLemmas.{found_passes}

-- no core passes where none is found
pub none_passes : (b : BankState) (worker arena core : ℕ) (k : Kept) (test : Kept → Bool)
    → IsSoundBank b → slice_get b.cores core ≡ Some k
    → find (λ n. passes test (slice_get b.cores n)) (asked b worker arena) ≡ None
    → test k ≡ false
none_passes b worker arena core k test sound there none =
    let current = sound.currents worker arena in
    sym (ap (passes test) there)
    ∙ none_in_round (λ n. passes test (slice_get b.cores n))
    (current_of b.currents worker arena) (length b.cores) core none (omega arith)
    (slice_get_within b.cores core k there)

-- the core that is found passes
one_passes : (b : BankState) (worker arena core : ℕ) (k : Kept) (test : Kept → Bool)
    → slice_get b.cores core ≡ Some k
    → find (λ n. passes test (slice_get b.cores n)) (asked b worker arena) ≡ Some core
    → test k ≡ true
one_passes b worker arena core k test there found =
    sym (ap (passes test) there)
    ∙ (found_passes (λ n. passes test (slice_get b.cores n)) (asked b worker arena) core found).0

-- no room is told of what the verdict allows
is_allowed : (v : AllocVerdict) → answer.NoRoom ≡ alloc_refused v
    → (size : ℕ) × (v ≡ verdict.Fits size)
is_allowed (verdict.Denied rule) e = absurd (cc)
is_allowed verdict.TooLarge e = absurd (cc)
is_allowed (verdict.Fits size) e = (size, refl)

pub not_some : (o : Option ℕ) → is_some o ≡ false → o ≡ None
not_some None e = refl
not_some (Some n) e = absurd (true≢false e)

module _ (old : BankState) (worker : ℕ) (sound : IsSoundBank old) where
  module _ (actor : Actor) (arena bytes size : ℕ)
      (fits : bank_verdict old worker actor arena bytes ≡ verdict.Fits size) where
    searched : (o : Option ℕ) → server old worker (alloc actor arena bytes) ≡ o
        → find (has_room_in old.cores worker arena (size_of bytes)) (asked old worker arena) ≡ o
    searched o e =
        let sized = (size_is old.policy actor.0 arena bytes
        (charge_over old.cores worker actor.0) size fits).1 in
        sym (ap (core_with_room old worker arena) (fits ∙ ap verdict.Fits sized)) ∙ e

    -- the core that serves has room, and so isn't without
    not_without : (new : BankState) (core : ℕ) → worker < old.policy.workers
        → server old worker (alloc actor arena bytes) ≡ Some core
        → IsServedBy old worker (alloc actor arena bytes) answer.NoRoom new core → ⊥
    not_without new core inside serves is =
        let k = is.was in
        let own = at_number (IsCoreOf old.policy) old.cores core k sound.cores is.there in
        let there = ap (λ x. charge x.state worker actor.0)
        (get_or_from_slice_get old.cores core k k is.there) in
        let part = get_or-le-sum_by (λ x. charge x.state worker actor.0) old.cores core k
        (core_below is) in
        let fit = core_fits old worker actor arena bytes size k fits own.policy own.sound inside
        (omega arith) in
        let none = passed_over is.next.state fit answer.NoRoom refl is.step.step in
        let room = one_passes old worker arena core k
        (λ x. has_room x.state worker arena (size_of bytes)) is.there
        (searched (Some core) serves) in
        true≢false (sym room ∙ none.0)

  no_room : (new : BankState) (actor : Actor) (arena bytes core : ℕ) (k : Kept)
      → worker < old.policy.workers
      → BankStep old worker (alloc actor arena bytes) answer.NoRoom new
      → slice_get old.cores core ≡ Some k → has_room k.state worker arena (size_of bytes) ≡ false
  no_room new actor arena bytes core k inside step there =
      elim (step_cases old worker (alloc actor arena bytes) answer.NoRoom new step) as
      (λ _. has_room k.state worker arena (size_of bytes) ≡ false) [
        | inl none ↦
            let v = is_allowed (bank_verdict old worker actor arena bytes) none.1.0 in
            none_passes old worker arena core k
            (λ x. has_room x.state worker arena (size_of bytes)) sound there
            (searched actor arena bytes v.0 v.1 None none.0)
        | inr by ↦
            let v = allowed old worker arena (bank_verdict old worker actor arena bytes) by.0 by.1
            in
            absurd (not_without actor arena bytes v.0 v.1 new by.0 inside by.1 by.2)
      ]

  no_segment : (new : BankState) (arena core : ℕ) (k : Kept)
      → BankStep old worker (refill arena) answer.NoSegment new
      → slice_get old.cores core ≡ Some k → next_of k.state arena ≡ None
  no_segment new arena core k step there =
      let test : Kept → Bool = λ x. is_some (next_of x.state arena) in
      elim (step_cases old worker (refill arena) answer.NoSegment new step) as
      (λ _. next_of k.state arena ≡ None) [
        | inl none ↦
            not_some (next_of k.state arena)
            (none_passes old worker arena core k test sound there none.0)
        | inr by ↦
            let is = by.2 in
            let was = was_refused is.was.state worker (event.Refill arena) answer.NoSegment
            is.next.state is.step.step refl in
            let none = some_left (next_of is.was.state arena) answer.NoSegment was.some in
            absurd (true≢false
            (sym (one_passes old worker arena by.0 is.was test is.there by.1) ∙ none))
      ]

pub all_were_asked : AllWereAsked
all_were_asked = record {
  room = λ old new worker actor arena bytes core k sound inside step there.
      no_room old worker sound new actor arena bytes core k inside step there;
  segments = λ old new worker arena core k sound step there.
      no_segment old worker sound new arena core k step there;
}
