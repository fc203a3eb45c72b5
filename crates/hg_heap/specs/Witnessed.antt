-- Laws: no tie of a heap is empty, over slot words of any kind.
use Rattle.std.specs.Prelude.{◌≡◌, ℕ, ◌*◌, ◌<◌, ◌≤◌, false, List, length, Option, Some, None}
use Rattle.std.specs.Prelude.{Contains}
use Rattle.hg_place.specs.declared.Place.{Place}
use Rattle.hg_place.specs.declared.geometry.TheConstants.{SEGMENT_PLACES}
use Rattle.hg_place.specs.declared.standing.Standing.{Standing}
use Rattle.hg_place.specs.Places.{segment_of}
use Rattle.hg_place.specs.Standings.{slot_of}
use Rattle.hg_machine.specs.Policy.{Policy}
use Rattle.hg_machine.specs.SoundPolicy.{IsSoundPolicy}
use Rattle.hg_machine.specs.State.{State}
use Rattle.hg_segment.specs.Kept.{Kept}
use Rattle.hg_agreement.specs.Agreement.{Agrees}
use Rattle.hg_agreement.specs.HoldingLaws.{IsHoldingRight}
use Rattle.hg_heap.specs.Held.{segment_in, is_held}
use Rattle.hg_heap.specs.Policies.{IsOf, AreOf}
use Rattle.hg_heap.specs.Settled.{IsSettled}
use Rattle.hg_heap.specs.Ties.{holding, heap_view, shown_at}

module _ {S : Type 0} (number : S → ℕ) (records : S → List Standing)
    (shows : S → ℕ → ℕ → Type 0) where
  -- a segment as the policy has it, which keeps what it promises, is such as the witness state
  -- wants
  abbrev pub SettledAreRight : Type 0
  SettledAreRight =
      (policy : Policy) (k : Kept S) → IsOf number policy k → IsSettled records k
      → IsHoldingRight policy (holding number records k)

  -- A worker of a sound policy with these segments: the policy has them so, each keeps what it
  -- promises, and in hand is nothing, or a place of the policy that isn't held, of a life from the
  -- first to the greatest
  pub record IsOwner (policy : Policy) (worker : ℕ) (hand : Option ℕ) (generation : ℕ)
      (segments : List (Kept S)) : Type 0 where
    pub policy_sound : IsSoundPolicy policy
    pub below : worker < policy.workers
    pub are_of : AreOf number policy segments
    pub settled : (k : Kept S) → Contains segments k → IsSettled records k
    pub within :
        (place : ℕ) → hand ≡ Some place → place < length policy.segments * SEGMENT_PLACES
    pub unheld :
        (place : ℕ) → hand ≡ Some place → is_held number segments (segment_of place) ≡ false
    pub given_out : (place : ℕ) → hand ≡ Some place → 1 ≤ generation
    pub greatest : (place : ℕ) → hand ≡ Some place → generation ≤ policy.max_generation

  -- there is a state that agrees with what the worker has, and a word that a step may find at a
  -- place of its segments
  pub record NoTieIsEmpty : Type 0 where
    pub unshown :
        (policy : Policy) (worker : ℕ) (hand : Option ℕ) (generation : ℕ)
        (segments : List (Kept S)) → IsOwner policy worker hand generation segments
        → (m : State)
        × Agrees m (heap_view number records policy worker hand generation segments) None
    pub shown :
        (policy : Policy) (worker : ℕ) (hand : Option ℕ) (generation word : ℕ)
        (segments : List (Kept S)) (place : Place) (k : Kept S)
        → IsOwner policy worker hand generation segments
        → segment_in number segments place.segment ≡ Some k → shows k.slots (slot_of place) word
        → (m : State)
        × Agrees m (heap_view number records policy worker hand generation segments)
        (shown_at place word)
