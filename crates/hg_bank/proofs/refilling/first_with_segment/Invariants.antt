use Rattle.std.proofs.Common.{◌≡◌, ◌<◌, ◌≤◌, ℕ, false, vec_len, vec_capacity}
use Rattle.hg_bank.specs.Choosing.{IsCounted}
use Rattle.hg_bank.specs.Requests.{has_segment_in}
use Rattle.hg_bank.proofs.refilling.first_with_segment.Given as goal

abbrev pub invariant-loop-number : goal.invariant-loop-number
invariant-loop-number l = record {
  items : l.cores.items ≡ l.fn.cores.items;
  len : vec_len l.cores ≡ vec_len l.fn.cores;
  room : vec_capacity l.cores ≡ vec_capacity l.fn.cores;
  counted : IsCounted l.worker l.tenants l.row l.cores.items;
  none : (n : ℕ) → l.first ≤ n → n < l.number
      → has_segment_in l.fn.cores.items l.arena n ≡ false;
}
