use Rattle.std.proofs.Common.{◌≡◌, length, vec_len, vec_capacity}
use Rattle.hg_core.proofs.running.answer_room.Given as goal

abbrev pub invariant-loop : goal.invariant-loop
invariant-loop l = record {
  items : length l.answers.items ≡ l.counter;
  len : vec_len l.answers ≡ l.counter;
  room : vec_capacity l.answers ≡ l.count;
}
