use Rattle.std.proofs.Common.{◌≡◌, length, map, take}
use Rattle.hg_hosted.specs.Places.{list_place}
use Rattle.hg_hosted.specs.Shared.{AreListsHome}
use Rattle.hg_hosted.proofs.shared.shared_lists.Given as goal

abbrev pub invariant-loop-at : goal.invariant-loop-at
invariant-loop-at l = record {
  made : length l.others.items ≡ l.at;
  all : length l.lists.items ≡ length l.fn.lists.items;
  own : AreListsHome l.fn.lists.items → AreListsHome l.lists.items;
  home : AreListsHome l.others.items;
  own_places : map list_place l.lists.items ≡ map list_place l.fn.lists.items;
  places : map list_place l.others.items ≡ take l.at (map list_place l.lists.items);
}
