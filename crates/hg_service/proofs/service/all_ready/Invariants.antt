use Rattle.std.proofs.Common.{◌≡◌, ℕ, ◌+◌, ◌<◌, true, Some, length, slice_get}
use Rattle.std.specs.Vec.Iter.{into_iter_items, into_iter_len}
use Rattle.hg_service.specs.New.{IsNew}
use Rattle.hg_service.specs.Ready.{AreReady, is_ready}
use Rattle.hg_service.proofs.service.all_ready.Given as goal

-- those that are left come behind those that are ready
abbrev pub invariant-loop-own : goal.invariant-loop-own
invariant-loop-own g l = record {
  count : length l.ready.items + into_iter_len l.own-iterator ≡ length l.fn.workers.items;
  left :
      (k : ℕ) (own : _) → slice_get (into_iter_items l.own-iterator) k ≡ Some own
      → IsNew (length l.ready.items + k) own;
  there : (k : ℕ) → k < length l.ready.items → is_ready l.ready.items k ≡ true;
  ready : AreReady l.ready.items;
}
