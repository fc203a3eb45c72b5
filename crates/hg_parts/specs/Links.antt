-- A segment over plain words in a core: it is right where it keeps what it promises, and what is
-- told of its places.
use Rattle.std.specs.Prelude.{◌≡◌, ◌≢◌, ℕ, ◌<◌, true, false, Some, slice_set, slice_index_or}
use Rattle.hg_place.specs.declared.geometry.TheConstants.{SEGMENT_PLACES, SEGMENT_PAGES}
use Rattle.hg_place.specs.declared.geometry.TheConstants.{PAGE_PLACES}
use Rattle.hg_place.specs.declared.plain.PlainWords.{PlainWords}
use Rattle.hg_place.specs.Plain.{plain_records, plain_words}
use Rattle.hg_place.specs.Slots.{slot_in}
use Rattle.hg_place.specs.Standings.{standing_at}
use Rattle.hg_place.specs.Standings.{is_home as is_at_home}
use Rattle.hg_segment.specs.Blocks.{block_at}
use Rattle.hg_segment.specs.Kept.{Kept, slot}
use Rattle.hg_segment.specs.Settled.{IsSettled}
use Rattle.hg_machine.specs.Life.{is_home, is_live, is_parted}
use Rattle.hg_machine.specs.Policy.{Policy, arena_of}
use Rattle.hg_agreement.specs.Parts.{Plain, plain_from, record_by}
use Rattle.hg_parts.specs.Rights.{IsSegmentRight}

-- it is of the policy; its slot words fit the records by their own type
abbrev pub SettledIsRight : Type 0
SettledIsRight =
    (policy : Policy) (s : Kept PlainWords) → arena_of policy s.slots.segment ≡ Some s.arena
    → s.greatest ≡ policy.max_generation → IsSettled plain_records s
    → IsSegmentRight policy (plain_from s)

-- the life of a place of a segment, by its standing and its slot word: home where it stands home;
-- open and live where the word is a live one, open and parted where it isn't
pub record IsLifeTold (one : Plain) (at : ℕ) : Type 0 where
  pub home :
      is_at_home (standing_at one.holding.standings at) ≡ true
      → is_home (record_by (Some one) at).life ≡ true
  pub live :
      is_at_home (standing_at one.holding.standings at) ≡ false
      → (slot_in (slice_index_or one.slots at 0)).live ≡ true
      → is_live (record_by (Some one) at).life ≡ true
  pub parted :
      is_at_home (standing_at one.holding.standings at) ≡ false
      → (slot_in (slice_index_or one.slots at 0)).live ≡ false
      → is_parted (record_by (Some one) at).life ≡ true

abbrev pub LivesAreTold : Type 0
LivesAreTold = (one : Plain) (at : ℕ) → IsLifeTold one at

-- two values of a segment over plain words have the same standings, slot words and words of open
-- blocks at all places but this one
pub record IsPlainPut (one now : Kept PlainWords) (at : ℕ) : Type 0 where
  pub standings :
      (other : ℕ) → other < SEGMENT_PLACES → other ≢ at
      → standing_at (plain_records now.slots) other ≡ standing_at (plain_records one.slots) other
  pub word : ℕ
  pub words : plain_words now.slots ≡ slice_set (plain_words one.slots) at word
  pub blocks :
      (page index : ℕ) → page < SEGMENT_PAGES → index < PAGE_PLACES → slot page index ≢ at
      → is_at_home (standing_at (plain_records now.slots) (slot page index)) ≡ false
      → block_at now.words now.classes page index ≡ block_at one.words one.classes page index

-- then what is told of these is the same
abbrev pub PlainPutKeepsOthers : Type 0
PlainPutKeepsOthers =
    (one now : Kept PlainWords) (at : ℕ) → IsPlainPut one now at
    → (other : ℕ) → other < SEGMENT_PLACES → other ≢ at
    → record_by (Some (plain_from now)) other ≡ record_by (Some (plain_from one)) other
