use Rattle.std.proofs.Common.{◌≡◌, ℕ, ◌<◌, ◌≤◌, Some, length, slice_get}
use Rattle.hg_machine.specs.declared.Answer.TheVariants as answer
use Rattle.hg_reply.specs.Replies.{reply_of}
use Rattle.hg_service_replies.proofs.listing.tell_rows.Given as goal

-- so many rows stand in the room, and what is behind them is as it was
abbrev pub invariant-loop-at : goal.invariant-loop-at
invariant-loop-at l = record {
  all : length l.room ≡ length l.fn.room;
  rows : (k : ℕ) (row : _) → k < l.at → slice_get l.rows k ≡ Some row → slice_get l.room k ≡ Some (reply_of (answer.Listed row));
  rest : (k : ℕ) → l.at ≤ k → slice_get l.room k ≡ slice_get l.fn.room k;
}
