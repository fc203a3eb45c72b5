use Rattle.std.proofs.Common.{◌≡◌, ◌+◌, ◌-◌, ◌≤◌, ◌&&◌, count_by, length}
use Rattle.std.specs.List.{range_with_len}
use Rattle.hg_machine.specs.Holders.{holds, is_in_arena}
use Rattle.hg_reasons.specs.Reasons.{held_in}
use Rattle.hg_reasons.proofs.reason.held_in.Given as goal

-- those so far and those that are left are all
abbrev pub invariant-loop-segment : goal.invariant-loop-segment
invariant-loop-segment l =
    let s = l.core.state in
    record {
      all :
          l.held
          + count_by (λ segment. holds s l.worker segment && is_in_arena s l.arena segment) (range_with_len l.segment (length s.policy.segments - l.segment))
          ≡ held_in s l.worker l.arena;
      few : l.held ≤ l.segment;
    }
