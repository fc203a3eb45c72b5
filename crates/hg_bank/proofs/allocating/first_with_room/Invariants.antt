use Rattle.std.proofs.Common.{◌≡◌, ◌<◌, ◌≤◌, ℕ, false, vec_len, vec_capacity}
use Rattle.hg_machine.specs.Request.{size_of}
use Rattle.hg_bank.specs.Requests.{has_room_in}
use Rattle.hg_bank.proofs.allocating.first_with_room.Given as goal

abbrev pub invariant-loop-number : goal.invariant-loop-number
invariant-loop-number l = record {
  items : l.cores.items ≡ l.fn.cores.items;
  len : vec_len l.cores ≡ vec_len l.fn.cores;
  room : vec_capacity l.cores ≡ vec_capacity l.fn.cores;
  none : (n : ℕ) → l.first ≤ n → n < l.number
      → has_room_in l.fn.cores.items l.worker l.arena (size_of l.bytes) n ≡ false;
}
