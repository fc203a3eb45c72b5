use Rattle.std.proofs.Common.{◌≡◌, ◌+◌, ◌++◌}
use Rattle.std.specs.Prelude.{replicate}
use Rattle.arrayvec.specs.ArrayString.{array_string_len}
use Rattle.hg_replay.proofs.replaying.text.push_blanks.Given as goal

-- so many blanks are pushed
abbrev pub invariant-loop : goal.invariant-loop
invariant-loop l = record {
  bytes : l.text.bytes ≡ l.fn.text.bytes ++ replicate l.counter 32;
  len : array_string_len l.text ≡ array_string_len l.fn.text + l.counter;
}
