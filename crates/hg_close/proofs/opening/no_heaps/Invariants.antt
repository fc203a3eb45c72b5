use Rattle.std.proofs.Common.{◌≡◌, [], length}
use Rattle.std.specs.List.{AllByRecursion}
use Rattle.hg_close.proofs.opening.no_heaps.Given as goal

abbrev pub invariant-loop : goal.invariant-loop
invariant-loop l = record {
  all : length l.heaps.items ≡ l.counter;
  none : AllByRecursion (λ heap. heap.segments ≡ []) l.heaps.items;
}
