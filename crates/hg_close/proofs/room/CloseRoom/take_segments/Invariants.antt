use Rattle.std.proofs.Common.{◌≡◌, length}
use Rattle.hg_worker.specs.Seats.{number_in, records_in, seat_shows, seat_steps}
use Rattle.hg_close.proofs.Founds.{all_in}
use Rattle.hg_close.proofs.Underway.{AreUnderway}
use Rattle.hg_close.proofs.room.CloseRoom.take_segments.Given as goal

-- some segments are left, and the others have come
abbrev pub invariant-loop-number : goal.invariant-loop-number
invariant-loop-number g l = record {
  under : AreUnderway number_in records_in seat_shows seat_steps g.N.ServiceName.policy l.initial.pool.pool
      l.pool.pool l.self.words.items l.self.parts.pool;
  rest : l.self ≡ record l.initial.self {
    words = l.self.words;
    parts = record l.initial.self.parts { pool = l.self.parts.pool };
  };
}

abbrev pub decreases-loop-number : goal.decreases-loop-number
decreases-loop-number g l = length (all_in number_in l.pool.pool)
