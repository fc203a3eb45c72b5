use Rattle.std.proofs.Common.{◌≡◌, List, ℕ, ◌++◌, flat_map, chars, IsUtf8}
use Rattle.std.specs.Str.Iter.{chars_rest}
use Rattle.std.specs.Fmt.{HasWritten, IsPlainFormatter}
use Rattle.hg_policy_text.specs.OneLine.{written, one_line}
use Rattle.hg_policy_text.proofs.one_line.OneLineDisplay.fmt.Given as goal

-- what is written so far, and what is still to come
abbrev pub invariant-loop-c : goal.invariant-loop-c
invariant-loop-c g l =
    IsUtf8 (chars_rest l.c-iterator)
    × (IsPlainFormatter l.initial.f → (done : List ℕ) × HasWritten g.W.Write.write_str_gives l.initial.f done l.f
    × (done ++ flat_map written (chars (chars_rest l.c-iterator)) ≡ one_line l.fn.self.0.now))
