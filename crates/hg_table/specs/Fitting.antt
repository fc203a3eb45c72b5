-- A word that a segment's seat may find fits its record; and seats of one table stay of one.
use Rattle.std.specs.Prelude.{◌≡◌, ℕ, ◌+◌, ◌*◌, ◌<◌, List, length}
use Rattle.std.proofs.Common.{sym, subst, arith, ◌∙◌}
use Rattle.hg_place.specs.declared.standing.Standing.{Standing}
use Rattle.hg_place.specs.declared.geometry.TheConstants.{SEGMENT_PLACES}
use Rattle.hg_place.specs.Lives.{IsSlotWord}
use Rattle.hg_place.specs.Standings.{standing_at, Fits}
use Rattle.atomic_table.specs.declared.shared.Seat.{Seat}
use Rattle.atomic_table.specs.declared.badge.Badge.{Badge}
use Rattle.hg_table.specs.declared.view.Part.{Part}
use Rattle.hg_table.specs.View.{View}
use Rattle.hg_table.specs.Told.{IsShown}
use Rattle.hg_table.specs.Seats.{word_at}

pub fitting :
    (segment slot word : ℕ) (part : Part) (records : List Standing)
    → part.first ≡ segment * SEGMENT_PLACES + 1 → part.records ≡ records
    → length records ≡ SEGMENT_PLACES → slot < SEGMENT_PLACES
    → IsShown (word_at segment slot) word part
    → IsSlotWord word × Fits (standing_at records slot) word
fitting segment slot word part records first same sized below shown = (
  shown.slot_word,
  subst (λ (l : List Standing). Fits (standing_at l slot) word) same
      (shown.recorded slot (subst (λ (l : List Standing). slot < length l) (sym same) (omega arith))
      (omega arith)),
)

-- a seat that is of its table still is of one with whom it was
pub still_together :
    (one one' : Seat (Unit {0}) View) (other : Badge View) → one'.table_id ≡ one.table_id
    → one.table_id ≡ other.table_id → one'.table_id ≡ other.table_id
still_together one one' other same together = same ∙ together

pub together_again :
    (one one' : Seat (Unit {0}) View) (other other' : Badge View)
    → one'.table_id ≡ one.table_id → other'.table_id ≡ other.table_id
    → one.table_id ≡ other.table_id → one'.table_id ≡ other'.table_id
together_again one one' other other' same same_other together =
    same ∙ (together ∙ sym same_other)
