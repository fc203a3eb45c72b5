use Rattle.std.proofs.Common.{◌≡◌, ◌<◌, ◌^◌, drop}
use Rattle.hg_trace.specs.Numbers.{number_on}
use Rattle.hg_trace.proofs.numbers.number_on.Given as goal

-- the digits so far are read
abbrev pub invariant-loop-b : goal.invariant-loop-b
invariant-loop-b l = record {
  fits : l.number < 2 ^ 64;
  goes_on : number_on l.number (drop l.b-index l.digits) ≡ number_on l.fn.number l.digits;
}
