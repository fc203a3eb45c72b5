use Rattle.std.proofs.Common.{◌≡◌, ◌-◌, ◌++◌, replicate, vec_len, vec_capacity}
use Rattle.hg_reserved.proofs.reserved.extend.Given as goal

abbrev pub invariant-loop : goal.invariant-loop
invariant-loop g l = record {
  items : l.values.items ≡ l.initial.values.items
      ++ replicate (l.counter - vec_len l.initial.values) g.T.Blank.blank;
  len : vec_len l.values ≡ l.counter;
  room : vec_capacity l.values ≡ vec_capacity l.initial.values;
}
