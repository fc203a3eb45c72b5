-- Laws of heaps.
use Rattle.std.specs.Prelude.{◌≡◌, ◌≢◌, ◌≤◌, ℕ, List, length, map}
use Rattle.hg_place.specs.declared.Place.{Place}
use Rattle.hg_place.specs.declared.standing.Standing.{Standing}
use Rattle.hg_machine.specs.Policy.{Policy}
use Rattle.hg_segment.specs.Kept.{Kept}
use Rattle.hg_heap.specs.Held.{Held, kinds, segment_in}
use Rattle.hg_heap.specs.Keeping.{KeepsAll}
use Rattle.hg_heap.specs.Met.{Met}
use Rattle.hg_heap.specs.Policies.{AreOf}
use Rattle.hg_heap.specs.Taking.{Takes}
use Rattle.hg_heap.specs.Ties.{Stepped}

-- a step leaves segments as a policy has them
abbrev pub StepsKeepPolicy
    : {S : Type 0} → (S → ℕ) → (S → ℕ → ℕ → Type 0) → (S → ℕ → ℕ → ℕ → S → Type 0) → Type 0
StepsKeepPolicy {S} number shows steps =
    (policy : Policy) (place : Place) (word left : ℕ) (old new : List (Kept S))
    → Stepped number shows steps place word left old new → AreOf number policy old
    → AreOf number policy new

-- and so does all that keeps their numbers, arenas and greatest generations
abbrev pub KindsKeepPolicy : {S : Type 0} → (S → ℕ) → Type 0
KindsKeepPolicy {S} number =
    (policy : Policy) (old new : List (Kept S)) → kinds number new ≡ kinds number old
    → AreOf number policy old → AreOf number policy new

module _ {S : Type 0} (number : S → ℕ) (records : S → List Standing) (shows : S → ℕ → ℕ → Type 0)
    (steps : S → ℕ → ℕ → ℕ → S → Type 0) where
  -- what is so wherever places of a segment were taken in, one after the other
  abbrev TakingMakes : (ℕ → List ℕ → Held S → Held S → ℕ → Type 0) → Type 0
  TakingMakes Is =
      (segment count : ℕ) (places : List ℕ) (old new : Held S)
      → Takes number records shows steps segment places old new count
      → Is segment places old new count

  -- the segments stand as they stood, with their numbers, arenas and greatest generations
  abbrev pub TakingKeepsKinds : Type 0
  TakingKeepsKinds =
      TakingMakes (λ segment places old new count.
      kinds number new.segments ≡ kinds number old.segments)

  -- all pages have the classes that they had
  abbrev pub TakingKeepsClasses : Type 0
  TakingKeepsClasses =
      TakingMakes (λ segment places old new count.
      map (λ k. k.classes) new.segments ≡ map (λ k. k.classes) old.segments)

  -- the other segments are as they were
  abbrev pub TakingKeepsOthers : Type 0
  TakingKeepsOthers =
      TakingMakes (λ segment places old new count.
      (other : ℕ) → other ≢ segment
      → segment_in number new.segments other ≡ segment_in number old.segments other)

  -- no more came home than there were places
  abbrev pub TakingCountsPlaces : Type 0
  TakingCountsPlaces = TakingMakes (λ segment places old new count. count ≤ length places)

  -- where none came home the queues are as they were
  abbrev pub TakingNoneKeepsQueues : Type 0
  TakingNoneKeepsQueues =
      TakingMakes (λ segment places old new count. count ≡ 0 → new.queues ≡ old.queues)

-- a meeting leaves all segments as they were, but for what slot words know
abbrev pub MeetingKeepsAll
    : {S Other : Type 0} → (S → ℕ) → (S → List Standing) → (S → ℕ → ℕ → Type 0)
    → (S → Other → ℕ → ℕ → S → Other → Type 0) → Type 0
MeetingKeepsAll {S} {Other} number records shows meets =
    (place : Place) (word : ℕ) (old new : List (Kept S)) (other after : Other)
    → Met number records shows meets place word old other new after
    → KeepsAll number records old new
