use Rattle.std.proofs.Common.{◌≡◌, replicate}
use Rattle.hg_remote.specs.Remote.{nothing_sent}
use Rattle.hg_close.proofs.opening.unsent_lists.Given as goal

abbrev pub invariant-loop : goal.invariant-loop
invariant-loop l = l.lists.items ≡ replicate l.counter nothing_sent
