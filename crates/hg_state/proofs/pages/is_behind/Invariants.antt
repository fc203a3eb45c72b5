use Rattle.std.proofs.Common.{◌≡◌, ◌+◌, ◌-◌, ◌*◌, false}
use Rattle.std.specs.List.{list_any, range_with_len}
use Rattle.hg_size.specs.Runs.{reaches}
use Rattle.hg_machine.specs.State.{class_at}
use Rattle.hg_state.proofs.pages.is_behind.Given as goal

-- no block of the pages so far reaches over it
abbrev pub invariant-loop-before : goal.invariant-loop-before
invariant-loop-before l =
    list_any (λ back. reaches (class_at l.core.state (l.segment * 16 + l.page - back)) back) (range_with_len 1 l.before) ≡ false
