use Rattle.std.proofs.Common.{◌≡◌, ℕ, ◌+◌, Some, length, slice_get}
use Rattle.std.specs.Vec.Iter.{into_iter_items, into_iter_len}
use Rattle.crossbeam_queue.specs.Passes.{view}
use Rattle.hg_service.specs.New.{IsNew}
use Rattle.hg_hosted.specs.New.{IsNewHosted, IsWorkerOf}
use Rattle.hg_hosted.specs.Places.{HaveSamePlaces}
use Rattle.hg_hosted.specs.Shared.{AreOfService, AreParked}
use Rattle.hg_hosted.proofs.opening.hosted.Given as goal

-- those that are left come behind those that are made
abbrev pub invariant-loop-worker : goal.invariant-loop-worker
invariant-loop-worker g l = record {
  of : AreOfService g.N.ServiceName.policy g.N.TableName.table l.shared;
  home : AreParked l.shared;
  count : length l.hosted.items + into_iter_len l.worker-iterator ≡ length l.fn.workers.items;
  left :
      (k : ℕ) (own : _) → slice_get (into_iter_items l.worker-iterator) k ≡ Some own
      → IsNew (length l.hosted.items + k) own;
  new : (k : ℕ) (one : _) → slice_get l.hosted.items k ≡ Some one → IsNewHosted k one;
  taken : (view l.shared.left.pass).taken ≡ (view l.fn.shared.left.pass).taken;
  own_places : HaveSamePlaces l.fn.shared l.shared;
  places :
      (k : ℕ) (one : _) → slice_get l.hosted.items k ≡ Some one
      → HaveSamePlaces l.fn.shared one.shared;
  named :
      (k : ℕ) (one : _) → slice_get l.hosted.items k ≡ Some one
      → IsWorkerOf g.N.ServiceName.policy g.N.TableName.table one;
}
