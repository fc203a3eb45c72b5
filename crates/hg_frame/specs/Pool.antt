-- The pool is left as it is by each event that moves no segment.
use Rattle.std.specs.Prelude.{◌≡◌, ℕ, Bool, true, false}
use Rattle.hg_place.specs.Places.{segment_of, segment_of_page}
use Rattle.hg_machine.specs.declared.Event.{Event}
use Rattle.hg_machine.specs.declared.Event.TheVariants as event
use Rattle.hg_machine.specs.declared.Answer.{Answer}
use Rattle.hg_machine.specs.State.{State, Holder, fresh, orphan, held, record_at, class_at}
use Rattle.hg_machine.specs.State.{holder_at}
use Rattle.hg_machine.specs.Holders.{next_of}
use Rattle.hg_machine.specs.Held.{IsAlike}
use Rattle.hg_machine.specs.Soundness.{IsSound}
use Rattle.hg_machine.specs.Steps.{Step}

-- nobody holds it
abbrev pub is_pooled : Holder → Bool
is_pooled fresh = true
is_pooled orphan = true
is_pooled (held worker) = false

-- the event moves a segment into the pool or out of it
abbrev pub moves_segment : Event → Bool
moves_segment (event.Abandon segment) = true
moves_segment (event.Refill arena) = true
moves_segment event = false

-- The orphans are the same, in their order, and so is who holds each segment: a refill would take
-- the same one. Of the segments that nobody holds the classes are the same, and the records alike
pub record IsPoolLeft (old new : State) : Type 0 where
  pub orphans : new.orphans ≡ old.orphans
  pub holders : new.holders ≡ old.holders
  pub next : (arena : ℕ) → next_of new arena ≡ next_of old arena
  pub records :
      (place : ℕ) → is_pooled (holder_at old (segment_of place)) ≡ true
      → IsAlike (record_at new place) (record_at old place)
  pub classes :
      (page : ℕ) → is_pooled (holder_at old (segment_of_page page)) ≡ true
      → class_at new page ≡ class_at old page

-- each step whose event moves no segment leaves the pool
abbrev pub PoolStays : Type 0
PoolStays =
    (old : State) (worker : ℕ) (event : Event) (answer : Answer) (new : State)
    → IsSound old → moves_segment event ≡ false → Step old worker event answer new
    → IsPoolLeft old new
