use Rattle.std.proofs.Common.{◌≡◌, ℕ, ◌<◌, length}
use Rattle.hg_close.specs.Rooms.{HasWords}
use Rattle.hg_close.proofs.opening.unused_words.Given as goal

abbrev pub invariant-loop-segment : goal.invariant-loop-segment
invariant-loop-segment l = record {
  all : length l.words.items ≡ l.segment;
  each : (k : ℕ) → k < l.segment → HasWords l.words.items k;
}
