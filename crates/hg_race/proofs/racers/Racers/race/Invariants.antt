use Rattle.std.proofs.Common.{◌+◌, ◌*◌, ◌≤◌}
use Rattle.hg_race.proofs.racers.Racers.race.Given as goal

-- each round so far is counted, with two answers at most
abbrev pub invariant-loop : goal.invariant-loop
invariant-loop g l =
    (l.counts.rounds ≤ l.counter) × (l.counts.ended + l.counts.freed ≤ 2 * l.counts.rounds)
