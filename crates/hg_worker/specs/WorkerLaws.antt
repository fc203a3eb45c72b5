-- Laws of workers: what the words of their contracts mean together.
use Rattle.std.specs.Prelude.{◌≡◌, ◌⊎◌, ℕ, ◌-◌, false, List, [], ◌∷◌, Option, Some, None, Contains}
use Rattle.hg_place.specs.declared.Handle.{Handle}
use Rattle.hg_place.specs.declared.Place.{Place}
use Rattle.hg_place.specs.declared.Right.TheVariants as right
use Rattle.hg_place.specs.declared.standing.Standing.{Standing}
use Rattle.hg_place.specs.Lives.{IsLiveWord, word_generation}
use Rattle.hg_machine.specs.declared.Answer.{Answer}
use Rattle.hg_machine.specs.Policy.{Policy}
use Rattle.hg_segment.specs.Kept.{Kept}
use Rattle.hg_agreement.specs.Views.{Shown}
use Rattle.hg_heap.specs.Held.{Held, segment_in, is_held}
use Rattle.hg_heap.specs.Judged.{IsJudged}
use Rattle.hg_heap.specs.Keeping.{KeepsAll}
use Rattle.hg_pool.specs.Pooled.{Pooled}
use Rattle.hg_table.specs.declared.view.Part.{Part}
use Rattle.hg_table.specs.KnownLaws.{HasSeen, HasEnded}
use Rattle.hg_worker.specs.CallerLocked.{IsRefilled, IsAbandoned}
use Rattle.hg_worker.specs.Had.{Had}
use Rattle.hg_worker.specs.Met.{HaveMetAt}
use Rattle.hg_worker.specs.Seen.{word_of, part_for, part_of_segment, Decided, Looked, KeepsSeats}
use Rattle.hg_worker.specs.Seen.{EndsNothing}

module _ {S : Type 0} (number : S → ℕ) (part : S → Part) where
  -- what was left and which lives were ended is told by the worker before the call and after it:
  -- two clauses of one call never speak of two words
  abbrev pub OneWordIsLeft : Type 0
  OneWordIsLeft =
      (place : Place) (found left found' left' : ℕ) (lives lives' : List (ℕ × ℕ)) (old new : Had S)
      → Decided number part place found left lives old new
      → Decided number part place found' left' lives' old new
      → (left ≡ left') × (lives ≡ lives')

  -- a free that was served: its exchange found this live word, which no rule denies
  abbrev pub IsFree : Policy → ℕ → Handle → ℕ → Had S → Had S → Type 0
  IsFree policy actor handle word old new =
      IsLiveWord word
      × Decided number part handle.place word (word - 1)
      ((word_of handle.place, word_generation word) ∷ []) old new
      × IsJudged policy actor right.Free handle word None

  -- has ended the life that the handle names, and no other
  pub record FreesEndTheirs : Type 0 where
    pub ended :
        (policy : Policy) (actor : ℕ) (handle : Handle) (word : ℕ) (old new : Had S)
        → IsFree policy actor handle word old new
        → HasEnded (part_for number part new handle.place) (word_of handle.place)
        handle.generation
    pub only :
        (policy : Policy) (actor : ℕ) (handle : Handle) (word : ℕ) (old new : Had S)
        → IsFree policy actor handle word old new → (at generation : ℕ)
        → HasEnded (part_for number part new handle.place) at generation
        → HasEnded (part_for number part old handle.place) at generation
        ⊎ ((at ≡ word_of handle.place) × (generation ≡ handle.generation))
    pub still :
        (policy : Policy) (actor : ℕ) (handle : Handle) (word : ℕ) (old new : Had S)
        → IsFree policy actor handle word old new → (at generation : ℕ)
        → HasEnded (part_for number part old handle.place) at generation
        → HasEnded (part_for number part new handle.place) at generation

  -- two workers that have met at a place have ended no life of it both
  abbrev pub TheirLivesAreApart : Type 0
  TheirLivesAreApart =
      (place : Place) (word generation : ℕ) (one other one' other' : Had S)
      → HaveMetAt number part place word one other one' other'
      → HasEnded (part_for number part one' place) (word_of place) generation
      → HasEnded (part_for number part other' place) (word_of place) generation → ⊥

  -- what a worker's seat for a place knows changes at steps alone, and at no other place's word
  pub record ViewsChangeAtSteps : Type 0 where
    pub unseen :
        (old new : Had S) → KeepsSeats number part old new → (place : Place)
        → part_for number part new place ≡ part_for number part old place
    pub elsewhere :
        (place : Place) (found left : ℕ) (lives : List (ℕ × ℕ)) (old new : Had S)
        → Decided number part place found left lives old new → (at word : ℕ)
        → HasSeen (part_for number part new place) at word
        → HasSeen (part_for number part old place) at word ⊎ (at ≡ word_of place)
    pub still :
        (place : Place) (found left : ℕ) (lives : List (ℕ × ℕ)) (old new : Had S)
        → Decided number part place found left lives old new → (at word : ℕ)
        → HasSeen (part_for number part old place) at word
        → HasSeen (part_for number part new place) at word

  module _ (records : S → List Standing) where
    -- a call that looked, and kept the segments, has ended nothing: so each refusal, and each read
    abbrev pub LooksEndNothing : Type 0
    LooksEndNothing =
        (place : Place) (shown : Option Shown) (old new : Had S)
        → Looked number part place shown old new
        → KeepsAll number records old.heap.segments new.heap.segments
        → EndsNothing number part old new

    -- what was seen and ended through a segment's seat goes with the segment: to the pool as it is,
    -- and to the worker that takes it from there
    pub record SeatsGoAlong : Type 0 where
      pub gone :
          (segment : ℕ) (one : Kept S) (answer : Answer) (pool pool' : Pooled S)
          (heap heap' : Held S) → segment_in number heap.segments segment ≡ Some one
          → IsAbandoned number segment (segment_in number heap.segments segment) answer pool pool'
          heap heap'
          → Contains pool'.orphans one
      pub come :
          (one : Kept S) (answer : Answer) (pool pool' : Pooled S) (old new : Had S)
          → IsRefilled number records part (Some one) answer pool pool' old new
          → is_held number old.heap.segments (number one.slots) ≡ false
          → (its : Part) × (part_of_segment number part new (number one.slots) ≡ Some its)
          × (its.ended ≡ (part one.slots).ended)
          × ((at word : ℕ) → HasSeen (part one.slots) at word → HasSeen its at word)
