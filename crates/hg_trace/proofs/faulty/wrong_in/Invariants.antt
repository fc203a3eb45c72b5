use Rattle.std.proofs.Common.{◌≡◌, ℕ, ◌+◌, ◌<◌, true, length, drop}
use Rattle.std.specs.Prelude.{slice_get}
use Rattle.hg_trace.specs.Lines.{split_words}
use Rattle.hg_trace.specs.Forms.{is_as_wanted, wanted_at}
use Rattle.hg_trace.proofs.faulty.wrong_in.Given as goal

abbrev pub invariant-loop-word : goal.invariant-loop-word
invariant-loop-word l = record {
  counted : l.number + length l.words ≡ length (split_words l.text);
  rest : l.words ≡ drop l.number (split_words l.text);
  before : (k : ℕ) → k < l.number → is_as_wanted (wanted_at (split_words l.text) k) (slice_get (split_words l.text) k) ≡ true;
}

abbrev pub decreases-loop-word : goal.decreases-loop-word
decreases-loop-word l = length l.words
