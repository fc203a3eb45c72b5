use Rattle.std.proofs.Common.{◌≡◌, vec_len, vec_capacity, replicate}
use Rattle.hg_remote.specs.Remote.{nothing_sent}
use Rattle.hg_core.proofs.opening.remotes_for.Given as goal

abbrev pub invariant-loop : goal.invariant-loop
invariant-loop l = record {
  items : l.remotes.items ≡ replicate l.counter nothing_sent;
  len : vec_len l.remotes ≡ l.counter;
  room : vec_capacity l.remotes ≡ l.segments;
}
