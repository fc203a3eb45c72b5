use Rattle.std.proofs.Common.{◌≡◌, ◌<◌, ℕ, Some, None, slice_get}
use Rattle.hg_hosted.specs.declared.parked.Parked.{Parked}
use Rattle.hg_hosted.specs.declared.parts.Sent.{Sent}
use Rattle.hg_hosted.proofs.shared.are_settled.Given as goal

abbrev pub invariant-loop-list : goal.invariant-loop-list
invariant-loop-list l =
    (at : ℕ) (list : Parked Sent) → slice_get l.lists at ≡ Some list → at < l.list-index
    → list.kept ≡ None
