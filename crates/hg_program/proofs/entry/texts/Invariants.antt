use Rattle.std.proofs.Common.{◌≡◌, map, string_bytes, take}
use Rattle.hg_program.proofs.entry.texts.Given as goal

-- the texts of the words so far
abbrev pub invariant-loop-word : goal.invariant-loop-word
invariant-loop-word l = map (λ w. w.now) l.texts.items ≡ map string_bytes (take l.word-index l.words)
