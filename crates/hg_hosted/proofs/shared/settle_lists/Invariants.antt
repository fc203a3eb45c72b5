use Rattle.std.proofs.Common.{◌≡◌, length, map}
use Rattle.hg_hosted.specs.Places.{list_place}
use Rattle.hg_hosted.specs.Shared.{AreListsHome}
use Rattle.hg_hosted.proofs.shared.settle_lists.Given as goal

abbrev pub invariant-loop-at : goal.invariant-loop-at
invariant-loop-at l = record {
  all : length l.lists.items ≡ length l.fn.lists.items;
  home : AreListsHome l.fn.lists.items → AreListsHome l.lists.items;
  places : map list_place l.lists.items ≡ map list_place l.fn.lists.items;
}
