use Rattle.std.proofs.Common.{◌≡◌, ◌++◌, take}
use Rattle.std.specs.List.{flat_map}
use Rattle.hg_state.specs.Workers.{next_number}
use Rattle.hg_state.proofs.workers.push_next_numbers.Given as goal

-- the numbers so far are told
abbrev pub invariant-loop-number : goal.invariant-loop-number
invariant-loop-number l = l.out.items ≡ l.fn.out.items ++ flat_map (next_number l.form) (take l.number-index l.numbers)
