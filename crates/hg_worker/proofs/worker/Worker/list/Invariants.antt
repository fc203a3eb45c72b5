use Rattle.std.proofs.Common.{◌≡◌, ◌≤◌, length, take, vec_len, vec_capacity}
use Rattle.hg_heap.specs.Keeping.{KeepsAll}
use Rattle.hg_worker.specs.Seats.{number_in, records_in}
use Rattle.hg_worker.specs.Workers.{Keeps, Lists}
use Rattle.hg_worker.proofs.worker.Worker.list.Given as goal

-- the places so far were looked at, one after the other
abbrev pub invariant-loop-place : goal.invariant-loop-place
invariant-loop-place g l = record {
  listed :
      Lists l.actor (take l.place-index l.place-items) l.rows.items l.fn.self l.self;
  kept : KeepsAll number_in records_in l.fn.self.inner.value.heap.segments l.self.inner.value.heap.segments;
  queues : l.self.inner.value.heap.queues ≡ l.fn.self.inner.value.heap.queues;
  rest : Keeps l.fn.self l.self;
  room : vec_capacity l.rows ≡ length l.place-items;
  few : vec_len l.rows ≤ l.place-index;
}
