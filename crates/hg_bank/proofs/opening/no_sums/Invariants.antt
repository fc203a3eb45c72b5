use Rattle.std.proofs.Common.{◌≡◌, vec_len, vec_capacity, replicate}
use Rattle.hg_bank.proofs.opening.no_sums.Given as goal

abbrev pub invariant-loop : goal.invariant-loop
invariant-loop l = record {
  items : l.rows.items ≡ replicate l.counter (replicate 64 0);
  len : vec_len l.rows ≡ l.counter;
  room : vec_capacity l.rows ≡ l.workers;
}
