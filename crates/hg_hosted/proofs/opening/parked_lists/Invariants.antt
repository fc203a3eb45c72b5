use Rattle.std.proofs.Common.{◌≡◌, ◌+◌, length}
use Rattle.std.specs.Vec.Iter.{into_iter_len}
use Rattle.hg_hosted.specs.Shared.{AreListsHome}
use Rattle.hg_hosted.proofs.opening.parked_lists.Given as goal

abbrev pub invariant-loop-kept : goal.invariant-loop-kept
invariant-loop-kept g l =
    (length l.parked.items + into_iter_len l.kept-iterator ≡ length l.fn.lists.items)
    × AreListsHome l.parked.items
