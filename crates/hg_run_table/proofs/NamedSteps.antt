-- The calls of a worker and a list, and of a worker and the pool, are tied so.
use Rattle.std.proofs.Common.{◌≡◌, ◌⊎◌, inl, inr, ℕ, zero, suc, ◌<◌, true, List, [], ◌∷◌, length, Some}
use Rattle.std.proofs.Common.{None, refl, sym}
use mathlib.Core.Option.{some-injective, some-ne-none}
use Rattle.hg_place.specs.Places.{segment_of}
use Rattle.hg_machine.specs.declared.Answer.TheVariants as answer
use Rattle.hg_machine.specs.declared.Event.TheVariants as event
use Rattle.hg_machine.specs.Policy.{Policy}
use Rattle.hg_agreement.specs.Views.{View}
use Rattle.hg_history.specs.Service.{IsIn}
use Rattle.hg_roles.specs.Joined.{IsSeatWith, come_home, emptied}
use Rattle.hg_roles.specs.Pooling.{let_go, put_back, next_in, taken_up, without}
use Rattle.hg_roles.specs.Roles.{Call, Pooled, Role, of_worker, of_remote, of_pool}
use Rattle.hg_roles.specs.Roles.{of_segment}
use Rattle.hg_roles.proofs.AbandonLemmas.{abandons_decide}
use Rattle.hg_roles.proofs.DeliverLemmas.{delivers_decide}
use Rattle.hg_roles.proofs.RefillLemmas.{refills_decide, empty_refills_decide}
use Rattle.hg_roles.proofs.TakeLemmas.{takes_decide}
use Rattle.hg_run_table.specs.JoinedCalls.{IsTiedTogether}

-- the seat of a worker with the one of another part, and no more
seat_with : (before : View) (log : List Call) (other : Role)
    → IsSeatWith before log other (of_worker before log ∷ other ∷ [])
seat_with before log other = record {
  place = 0;
  there = refl;
  second = 1;
  joined = refl;
  others = elim_two;
}
  where
    elim_two : (j : ℕ) (part : Role) → IsIn (of_worker before log ∷ other ∷ []) j part
        → (part ≡ of_worker before log)
        ⊎ ((part ≡ other) ⊎ ((segment : ℕ) × (part ≡ of_segment segment)))
    elim_two zero part at = inl (sym (some-injective (of_worker before log) part at))
    elim_two (suc zero) part at = inr (inl (sym (some-injective other part at)))
    elim_two (suc (suc j)) part at = absurd (some-ne-none part (sym at))

module _ (policy : Policy) (before : View) (log : List Call)
    (below : before.worker < policy.workers) where
  pub take_tied : (segment : ℕ) (sent : List ℕ) → before.holds segment ≡ true
      → IsTiedTogether policy before log (event.Take segment, answer.Taken (length sent))
      (come_home before sent) (of_remote segment sent) (of_remote segment [])
  take_tied segment sent held = record {
    worker = refl;
    left_is = refl;
    named = refl;
    decides = λ words.
        takes_decide policy words (of_worker before log ∷ of_remote segment sent ∷ []) log before
        segment sent (seat_with before log (of_remote segment sent)) below held;
  }

  pub deliver_tied : (place : ℕ) (sent : List ℕ) → before.hand ≡ Some place
      → IsTiedTogether policy before log (event.Deliver, answer.Done) (emptied before)
      (of_remote (segment_of place) sent) (of_remote (segment_of place) (place ∷ sent))
  deliver_tied place sent hand = record {
    worker = refl;
    left_is = refl;
    named = refl;
    decides = λ words.
        delivers_decide policy words
        (of_worker before log ∷ of_remote (segment_of place) sent ∷ []) log before
        (segment_of place) place sent (seat_with before log (of_remote (segment_of place) sent))
        below hand refl;
  }

  pub abandon_tied : (p : Pooled) (segment : ℕ) → before.holds segment ≡ true
      → IsTiedTogether policy before log (event.Abandon segment, answer.Done)
      (let_go before segment) (of_pool p) (of_pool (put_back p before segment))
  abandon_tied p segment held = record {
    worker = refl;
    left_is = refl;
    named = refl;
    decides = λ words.
        abandons_decide policy words (of_worker before log ∷ of_pool p ∷ []) log before p segment
        (seat_with before log (of_pool p)) below held;
  }

  pub refill_tied : (p : Pooled) (arena segment : ℕ) → next_in policy arena p ≡ Some segment
      → IsTiedTogether policy before log (event.Refill arena, answer.Refilled segment)
      (taken_up before p segment) (of_pool p) (of_pool (without p segment))
  refill_tied p arena segment next = record {
    worker = refl;
    left_is = refl;
    named = refl;
    decides = λ words.
        refills_decide policy words (of_worker before log ∷ of_pool p ∷ []) log before p arena
        segment (seat_with before log (of_pool p)) below next;
  }

  pub no_refill_tied : (p : Pooled) (arena : ℕ) → next_in policy arena p ≡ None
      → IsTiedTogether policy before log (event.Refill arena, answer.NoSegment) before (of_pool p)
      (of_pool p)
  no_refill_tied p arena none = record {
    worker = refl;
    left_is = refl;
    named = refl;
    decides = λ words.
        empty_refills_decide policy words (of_worker before log ∷ of_pool p ∷ []) log before p arena
        (seat_with before log (of_pool p)) below none;
  }
