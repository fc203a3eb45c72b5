-- What keeps parts tidy while places go on remote lists, or come off them.
use Rattle.std.specs.Prelude.{◌≡◌, ℕ, ◌+◌, ◌*◌, ◌<◌, [], true, Some, None, slice_index_or}
use Rattle.std.specs.Prelude.{slice_set}
use Rattle.hg_place.specs.declared.geometry.TheConstants.{SEGMENT_PLACES}
use Rattle.hg_lists.specs.Inserts.{Inserts}
use Rattle.hg_remote.specs.Remote.{IsRight, contents}
use Rattle.hg_remote.specs.Remote.{Remote as RemoteList}
use Rattle.hg_machine.specs.Life.{is_home, is_parted}
use Rattle.hg_agreement.specs.Parts.{Plain, Parts, remote_at, record_by}
use Rattle.hg_agreement.specs.PlainPut.{with_plain}
use Rattle.hg_agreement.specs.TakenIn.{IsTakenIn}
use Rattle.hg_parts.specs.Rights.{IsSegmentRight, list_of, remote_from}
use Rattle.hg_parts.specs.Tidy.{IsTidy}
use Rattle.hg_parts.specs.Spots.{Spot, with_segment, IsSpotPut}

-- the parts with another remote list of a segment
abbrev pub with_remote : Parts → ℕ → RemoteList → Parts
with_remote parts segment remote =
    record parts { remotes = slice_set parts.remotes segment (remote_from remote) }

-- a place is delivered: it leaves a worker's hand, and its segment's remote list has it more
abbrev pub DeliveredIsTidy : Type 0
DeliveredIsTidy =
    (parts : Parts) (worker segment at : ℕ) (remote : RemoteList) → IsTidy parts
    → at < SEGMENT_PLACES
    → slice_index_or parts.hands worker None ≡ Some (segment * SEGMENT_PLACES + at)
    → IsRight remote
    → Inserts at (contents (list_of (remote_at parts segment))) (contents remote)
    → IsTidy
    (with_remote (record parts { hands = slice_set parts.hands worker None }) segment remote)

-- a place is taken back: it was parted and is home, and its segment's remote list had it more
abbrev pub TakenBackIsTidy : Type 0
TakenBackIsTidy =
    (parts : Parts) (spot : Spot) (one now : Plain) (at : ℕ) (remote : RemoteList) → IsTidy parts
    → IsSpotPut parts spot one now at
    → is_parted (record_by (Some one) at).life ≡ true
    → is_home (record_by (Some now) at).life ≡ true
    → IsRight remote
    → Inserts at (contents remote) (contents (list_of (remote_at parts one.holding.number)))
    → IsTidy (with_remote (with_segment parts spot now parts.hands) one.holding.number remote)

-- all places of a remote list are taken back, and it has none any more
abbrev pub TakenInIsTidy : Type 0
TakenInIsTidy =
    (parts : Parts) (worker found : ℕ) (one now : Plain) (remote : RemoteList) → IsTidy parts
    → IsTakenIn parts worker found one now → IsSegmentRight parts.policy now
    → IsRight remote → contents remote ≡ []
    → IsTidy (with_remote (with_plain parts worker found now) one.holding.number remote)
