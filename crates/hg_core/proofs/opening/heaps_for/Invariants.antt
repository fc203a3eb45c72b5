use Rattle.std.proofs.Common.{◌≡◌, [], length, vec_capacity}
use Rattle.std.specs.List.{AllByRecursion}
use Rattle.hg_core.specs.Opening.{empty_queues}
use Rattle.hg_core.proofs.opening.heaps_for.Given as goal

abbrev pub invariant-loop : goal.invariant-loop
invariant-loop l = record {
  all : length l.heaps.items ≡ l.counter;
  none : AllByRecursion (λ heap. heap.segments ≡ []) l.heaps.items;
  queues : AllByRecursion (λ heap. heap.queues ≡ empty_queues) l.heaps.items;
  room : vec_capacity l.heaps ≡ l.workers;
}
