use Rattle.std.proofs.Common.{◌≡◌, ℕ, ◌<◌, false}
use Rattle.hg_machine.specs.Policy.{arena_of}
use Rattle.hg_race.specs.Fit.{is_first}
use Rattle.hg_race.proofs.fit.has_segment.Given as goal

-- none of the segments so far is of the first arena
abbrev pub invariant-loop-segment : goal.invariant-loop-segment
invariant-loop-segment l =
    (k : ℕ) → k < l.segment → is_first (arena_of l.policy k) ≡ false
