-- What a worker sends to the list of a segment.
use Rattle.std.specs.Prelude.{◌≡◌, ◌≢◌, ℕ, Option, None, Some}
use Rattle.hg_place.specs.declared.Handle.{Handle}
use Rattle.hg_machine.specs.declared.Answer.{Answer}
use Rattle.hg_machine.specs.declared.Answer.TheVariants as answer
use Rattle.hg_remote.specs.Remote.{Remote}
use Rattle.hg_worker.specs.CallerLocked.{IsDelivered}

-- what is in hand is sent to the list, if that is of its segment; else nothing changes
abbrev pub IsSentTo
    : ℕ → Option Handle → Answer → Remote → Remote → Option Handle → Type 0
IsSentTo segment None result old new hand = IsDelivered None result old new hand
IsSentTo segment (Some handle) result old new hand =
    (handle.place.segment ≡ segment → IsDelivered (Some handle) result old new hand)
    × (handle.place.segment ≢ segment
    → (result ≡ answer.Busy) × (new ≡ old) × (hand ≡ Some handle))
