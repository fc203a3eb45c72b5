-- The witness state of a worker agrees with it.
use Rattle.std.proofs.Common.{◌≡◌, ℕ, ◌*◌, ◌<◌, ◌≤◌, List, length, map, Some, None, sym}
use Rattle.std.proofs.Common.{subst, ◌∙◌}
use Rattle.std.specs.Prelude.{Option, Contains, IfSome}
use Rattle.std.proofs.lemmas.Option.{none-some}
use Rattle.hg_place.specs.declared.Handle.{Handle}
use Rattle.hg_place.specs.declared.standing.Standing.{Standing}
use Rattle.hg_place.specs.Lives.{IsSlotWord}
use Rattle.hg_place.specs.Standings.{standing_at, IsSane, Fits}
use Rattle.hg_machine.specs.SoundPolicy.{IsSoundPolicy}
use Rattle.hg_segment.specs.Kept.{Kept}
use Rattle.hg_agreement.specs.Agreement.{Agrees}
use Rattle.hg_agreement.specs.Holdings.{Holding, holding_of}
use Rattle.hg_agreement.specs.HoldingLaws.{IsHoldingRight}
use Rattle.hg_agreement.specs.Views.{Shown}
use Rattle.hg_agreement.specs.Witness.{IsHeapView, IsFoundBy, IsHandOf, IsUsual, witness}
use Rattle.hg_agreement.proofs.RightHeaps.{right_holdings_are_heaps}
use Rattle.hg_agreement.proofs.Witnesses.{witness_agrees}
use Rattle.hg_heap.specs.Held.{segment_in}
use Rattle.hg_heap.specs.Policies.{AreOf}
use Rattle.hg_heap.specs.Settled.{IsSettled}
use Rattle.hg_heap.specs.Ties.{holding}
use Rattle.hg_heap.proofs.Founds.{segment_contained}
use Rattle.hg_heap.proofs.ViewRoom.{holding_in}
use Rattle.hg_heap.proofs.Witnessed.{settled_are_right}
use Rattle.hg_heap.proofs.Options.{of_map}
use Rattle.hg_table.specs.declared.view.Part.{Part}
use Rattle.hg_worker.specs.Had.{Had, view_in, hand_place, hand_generation}
use Rattle.hg_worker.specs.Hands.{KnowsHand}

-- the life in hand was given out
hand_given : (hand : Option Handle) (place : ℕ) → hand_place hand ≡ Some place
    → 1 ≤ hand_generation hand
hand_given None place e = absurd (none-some place e)
hand_given (Some handle) place e = handle.given_out

module _ {S : Type 0} (number : S → ℕ) (records : S → List Standing) (part : S → Part) where
  -- what a worker keeps, for its witness
  pub record IsWhole (had : Had S) : Type 0 where
    pub policy : IsSoundPolicy had.policy
    pub below : had.number < had.policy.workers
    pub of : AreOf number had.policy had.heap.segments
    pub settled : (k : Kept S) → Contains had.heap.segments k → IsSettled records k
    pub hand : (place : ℕ) → hand_place had.hand ≡ Some place
        → place < length had.policy.segments * 8192
    pub known : KnowsHand number part had.hand had.own had.heap.segments

  module _ (shows : S → ℕ → ℕ → Type 0) (sized : (s : S) → length (records s) ≡ 8192)
      (sane : (s : S) (at : ℕ) → at < 8192 → IsSane (standing_at (records s) at))
      (fits : (s : S) (at word : ℕ) → at < 8192 → shows s at word
      → IsSlotWord word × Fits (standing_at (records s) at) word) (had : Had S)
      (whole : IsWhole had) where
    are_right : (segment : ℕ) (h : Holding)
        → holding_of (map (holding number records) had.heap.segments) segment ≡ Some h
        → IsHoldingRight had.policy h
    are_right segment h is =
        let o = of_map (holding number records) (segment_in number had.heap.segments segment) h
        (sym (holding_in number records had.heap.segments segment) ∙ is) in
        let here = segment_contained number had.heap.segments segment o.0 o.1 in
        subst (IsHoldingRight had.policy) o.2
        (settled_are_right number records shows sized sane fits had.policy o.0
        (whole.of.arena o.0 here, whole.of.greatest o.0 here) (whole.settled o.0 here))

    heap_view_is : IsHeapView (view_in number records had)
    heap_view_is =
        right_holdings_are_heaps had.policy had.number (hand_place had.hand)
        (hand_generation had.hand) (map (holding number records) had.heap.segments) whole.policy
        whole.below are_right

    hand_is : IsHandOf (view_in number records had)
    hand_is = record { within = whole.hand; given_out = hand_given had.hand }

    -- the witness agrees, whatever word was shown that may be
    pub usual_agrees : (shown : Option Shown)
        → IfSome shown (IsFoundBy (view_in number records had))
        → IsUsual (view_in number records had) shown
        → Agrees (witness (view_in number records had) shown) (view_in number records had) shown
    usual_agrees shown found usual =
        witness_agrees (view_in number records had) shown heap_view_is hand_is found usual
