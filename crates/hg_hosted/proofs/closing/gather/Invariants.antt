use Rattle.std.proofs.Common.{◌≡◌, ◌≤◌, vec_capacity}
use Rattle.crossbeam_queue.specs.Passes.{view}
use Rattle.hg_hosted.specs.Coming.{AreNoted, HaveLeft, StayCome}
use Rattle.hg_hosted.specs.Parking.{FitsKept}
use Rattle.hg_hosted.specs.Parts.{HasLeft}
use Rattle.hg_hosted.proofs.closing.gather.Given as goal

abbrev pub invariant-loop : goal.invariant-loop
invariant-loop g l = record {
  known : (view l.left.pass).known ≡ (view l.fn.left.pass).known;
  kept : FitsKept HasLeft (view l.left.pass).known l.left.kept;
  came : StayCome l.fn.came.items l.came.items;
  left : HaveLeft g.N.ServiceName.policy g.N.TableName.table l.came.items;
  noted : AreNoted (view l.left.pass).taken l.came.items;
  room : vec_capacity l.fn.came ≤ vec_capacity l.came;
  place : l.left.pass.table_id ≡ l.fn.left.pass.table_id;
}
