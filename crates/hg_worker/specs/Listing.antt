-- What a worker lists: the places that its segments record as open, and what a look shows at each.
use Rattle.std.specs.Prelude.{◌≡◌, ℕ, ◌*◌, ◌%◌, ◌++◌, Bool, false, not, List, [], ◌∷◌, map, filter}
use Rattle.std.specs.Prelude.{Option, Some, None}
use Rattle.std.specs.List.{range_with_len}
use Rattle.hg_place.specs.declared.geometry.TheConstants.{MAX_SEGMENTS, SEGMENT_PLACES}
use Rattle.hg_place.specs.declared.Actor.{Actor}
use Rattle.hg_place.specs.declared.Place.{Place}
use Rattle.hg_place.specs.declared.standing.Standing.{Standing}
use Rattle.hg_place.specs.Places.{place_at, segment_of}
use Rattle.hg_place.specs.Standings.{standing_at, is_home}
use Rattle.hg_machine.specs.declared.Answer.{Answer}
use Rattle.hg_machine.specs.declared.Event.TheVariants as event
use Rattle.hg_machine.specs.declared.Row.{Row}
use Rattle.hg_segment.specs.Kept.{Kept}
use Rattle.hg_agreement.specs.Views.{Shown}
use Rattle.hg_heap.specs.Held.{segment_in}
use Rattle.hg_heap.specs.Keeping.{KeepsAll}
use Rattle.hg_heap.specs.Ties.{HeapTies}
use Rattle.hg_table.specs.declared.view.Part.{Part}
use Rattle.hg_worker.specs.Answers.{rows_in}
use Rattle.hg_worker.specs.Had.{Had}
use Rattle.hg_worker.specs.Seen.{Looked, StepsWithin}
use Rattle.hg_worker.specs.Tied.{IsTied}

-- the places of the segments below a number, and those of one segment, by their numbers, rising
unfoldable pub places_below : ℕ → List ℕ
places_below segments = range_with_len 0 (segments * SEGMENT_PLACES)

unfoldable pub places_in : ℕ → List ℕ
places_in segment = range_with_len (segment * SEGMENT_PLACES) SEGMENT_PLACES

module _ {S : Type 0} (number : S → ℕ) (records : S → List Standing) where
  abbrev pub is_open_by : Option (Kept S) → ℕ → Bool
  is_open_by None slot = false
  is_open_by (Some k) slot = not (is_home (standing_at (records k.slots) slot))

  -- the place is one of a segment that is held, which records it as open
  abbrev pub is_open : List (Kept S) → ℕ → Bool
  is_open segments place =
      is_open_by (segment_in number segments (segment_of place)) (place % SEGMENT_PLACES)

  abbrev pub open_among : List (Kept S) → List ℕ → List Place
  open_among segments places = map place_at (filter (is_open segments) places)

  -- all places of held segments that these record as open, rising
  abbrev pub open_places : List (Kept S) → List Place
  open_places segments = open_among segments (places_below MAX_SEGMENTS)

  module _ (part : S → Part) where
    -- one look at the place is answered so, which is the machine's answer for the word that it
    -- found, to a worker with anything in its hand; records, classes, words and lists stay
    abbrev pub IsLook : Actor → Place → Answer → Had S → Had S → Type 0
    IsLook actor place answer old new =
        (shown : Option Shown) × Looked number part place shown old new
        × StepsWithin number part 1 place old new
        × IsTied number records shown (event.Look actor place) answer shown old new
        × HeapTies number records old.policy shown shown (event.Look actor place) answer
        old.heap.segments new.heap.segments
        × KeepsAll number records old.heap.segments new.heap.segments

    -- one look at each of these places, one after the other, and nothing else; the rows are those
    -- that they showed
    abbrev pub AreLooks : Actor → List Place → List Row → Had S → Had S → Type 0
    AreLooks actor [] rows old new = (rows ≡ []) × (new ≡ old)
    AreLooks actor (place ∷ places) rows old new =
        (answer : Answer) × (mid : Had S) × (more : List Row) × IsLook actor place answer old mid
        × (rows ≡ rows_in answer ++ more) × AreLooks actor places more mid new
