-- What keeps parts tidy while a segment stays where it stands: a place of it goes out, comes home
-- or is parted, or the same places are out as before.
use Rattle.std.specs.Prelude.{◌≡◌, ℕ, ◌+◌, ◌*◌, ◌<◌, true, length, Some, None, slice_index_or}
use Rattle.std.specs.Prelude.{slice_set}
use Rattle.hg_place.specs.declared.geometry.TheConstants.{SEGMENT_PLACES}
use Rattle.hg_machine.specs.Life.{is_home, is_live, is_parted}
use Rattle.hg_agreement.specs.Parts.{Plain, Parts, record_by}
use Rattle.hg_parts.specs.Tidy.{IsTidy}
use Rattle.hg_parts.specs.Spots.{Spot, with_segment, IsSpotSwap, IsSpotPut}

-- a place goes out, whether or not its page has another class now
abbrev pub GoneOutIsTidy : Type 0
GoneOutIsTidy =
    (parts : Parts) (spot : Spot) (one now : Plain) (at : ℕ) → IsTidy parts
    → IsSpotPut parts spot one now at
    → is_home (record_by (Some one) at).life ≡ true
    → is_live (record_by (Some now) at).life ≡ true
    → IsTidy (with_segment parts spot now parts.hands)

-- a live block comes home
abbrev pub ComeHomeIsTidy : Type 0
ComeHomeIsTidy =
    (parts : Parts) (spot : Spot) (one now : Plain) (at : ℕ) → IsTidy parts
    → IsSpotPut parts spot one now at
    → is_live (record_by (Some one) at).life ≡ true
    → is_home (record_by (Some now) at).life ≡ true
    → IsTidy (with_segment parts spot now parts.hands)

-- a live block is parted into a worker's empty hand
abbrev pub PartedIsTidy : Type 0
PartedIsTidy =
    (parts : Parts) (spot : Spot) (one now : Plain) (at worker : ℕ) → IsTidy parts
    → IsSpotPut parts spot one now at → worker < length parts.hands
    → slice_index_or parts.hands worker None ≡ None
    → is_live (record_by (Some one) at).life ≡ true
    → is_parted (record_by (Some now) at).life ≡ true
    → IsTidy
    (with_segment parts spot now
    (slice_set parts.hands worker (Some (one.holding.number * SEGMENT_PLACES + at))))

-- the same places are out: a write into a block, or idle pages that lose their class
abbrev pub SameOutIsTidy : Type 0
SameOutIsTidy =
    (parts : Parts) (spot : Spot) (one now : Plain) → IsTidy parts → IsSpotSwap parts spot one now
    → ((at : ℕ) → at < SEGMENT_PLACES
    → is_parted (record_by (Some now) at).life ≡ is_parted (record_by (Some one) at).life)
    → IsTidy (with_segment parts spot now parts.hands)
