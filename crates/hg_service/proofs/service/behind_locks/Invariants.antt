use Rattle.std.proofs.Common.{◌≡◌, ◌+◌, length}
use Rattle.std.specs.Vec.Iter.{into_iter_len}
use Rattle.hg_service.proofs.service.behind_locks.Given as goal

abbrev pub invariant-loop-list : goal.invariant-loop-list
invariant-loop-list g l =
    length l.locked.items + into_iter_len l.list-iterator ≡ length l.fn.lists.items
