-- What the state and the lists of a core's parts tell of each segment.
use Rattle.std.specs.Prelude.{◌≡◌, ℕ, ◌+◌, ◌*◌, ◌<◌, length, Some, slice_index}
use Rattle.hg_place.specs.declared.geometry.TheConstants.{SEGMENT_PLACES, SEGMENT_PAGES}
use Rattle.hg_place.specs.declared.geometry.TheConstants.{PAGE_PLACES}
use Rattle.hg_place.specs.declared.plain.PlainWords.{PlainWords}
use Rattle.hg_place.specs.Plain.{plain_words, plain_records}
use Rattle.hg_place.specs.Standings.{standing_at}
use Rattle.hg_segment.specs.Kept.{lists_at, class_at as class_of_segment, Kept as KeptSegment}
use Rattle.hg_machine.specs.State.{record_at, class_at}
use Rattle.hg_machine.specs.Lists.{list_at, Kept}
use Rattle.hg_agreement.specs.Holdings.{class_of}
use Rattle.hg_agreement.specs.Parts.{Plain, Parts, plain_of, record_by, remote_at, thread_at}
use Rattle.hg_agreement.specs.Parts.{places_from, state_of, lists_of, plain_from, kept_of}

-- the number of a page over all segments
abbrev pub page_in : ℕ → ℕ → ℕ
page_in segment page = segment * SEGMENT_PAGES + page

-- wherever the segment stands: its records, its classes, and the lists of its pages, as places
pub record AreTold (parts : Parts) (segment : ℕ) (one : Plain) : Type 0 where
  pub records :
      (at : ℕ) → at < SEGMENT_PLACES
      → record_at (state_of parts) (segment * SEGMENT_PLACES + at) ≡ record_by (Some one) at
  pub classes :
      (page : ℕ) → page < SEGMENT_PAGES
      → class_at (state_of parts) (page_in segment page) ≡ class_of one.holding page
  pub free :
      (page : ℕ) → page < SEGMENT_PAGES
      → list_at (lists_of parts).free (page_in segment page)
      ≡ places_from (page_in segment page * PAGE_PLACES) (lists_at one.lists page).free
  pub local_free :
      (page : ℕ) → page < SEGMENT_PAGES
      → list_at (lists_of parts).local_free (page_in segment page)
      ≡ places_from (page_in segment page * PAGE_PLACES) (lists_at one.lists page).local_free

abbrev pub SegmentsAreTold : Type 0
SegmentsAreTold =
    (parts : Parts) (segment : ℕ) (one : Plain) → segment < length parts.policy.segments
    → plain_of parts segment ≡ Some one → AreTold parts segment one

-- the lists of sent places are those of its remote list
pub record AreSentTold (parts : Parts) (segment : ℕ) : Type 0 where
  pub delayed :
      list_at (lists_of parts).delayed segment
      ≡ places_from (segment * SEGMENT_PLACES) (remote_at parts segment).delayed
  pub thread_free :
      (page : ℕ) → page < SEGMENT_PAGES
      → list_at (lists_of parts).thread_free (page_in segment page)
      ≡ places_from (segment * SEGMENT_PLACES) (thread_at (remote_at parts segment) page)

abbrev pub RemotesAreTold : Type 0
RemotesAreTold =
    (parts : Parts) (segment : ℕ) → segment < length parts.policy.segments
    → AreSentTold parts segment

-- a segment over plain words has what its callers see
pub record IsPlainOf (s : KeptSegment PlainWords) (one : Plain) : Type 0 where
  pub arena : one.arena ≡ s.arena
  pub greatest : one.greatest ≡ s.greatest
  pub number : one.holding.number ≡ s.slots.segment
  pub standings :
      (at : ℕ)
      → standing_at one.holding.standings at ≡ standing_at (plain_records s.slots) at
  pub slots : (at : ℕ) → slice_index one.slots at ≡ slice_index (plain_words s.slots) at
  pub classes : (page : ℕ) → class_of one.holding page ≡ class_of_segment s.classes page
  pub words : (at : ℕ) → slice_index one.holding.words at ≡ slice_index s.words at
  pub lists : (page : ℕ) → lists_at one.lists page ≡ lists_at s.lists page

abbrev pub PlainSegmentsAreTold : Type 0
PlainSegmentsAreTold = (s : KeptSegment PlainWords) → IsPlainOf s (plain_from s)

-- a core is seen as the state, the lists and the queues of its parts
pub record IsKeptOf (parts : Parts) (k : Kept) : Type 0 where
  pub state : k.state ≡ state_of parts
  pub lists : k.lists ≡ lists_of parts
  pub queues : k.queues ≡ parts.queues

abbrev pub PartsAreKept : Type 0
PartsAreKept = (parts : Parts) → IsKeptOf parts (kept_of parts)
