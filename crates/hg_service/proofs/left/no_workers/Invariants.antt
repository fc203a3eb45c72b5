use Rattle.std.proofs.Common.{◌≡◌, length}
use Rattle.hg_service.specs.Places.{AreTheirs, HoldNothing}
use Rattle.hg_service.proofs.left.no_workers.Given as goal

abbrev pub invariant-loop : goal.invariant-loop
invariant-loop g l = record {
  all : length l.places.items ≡ l.counter;
  theirs : AreTheirs l.places.items;
  nothing : HoldNothing l.places.items;
}
