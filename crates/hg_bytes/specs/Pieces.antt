-- How bytes lie in words: eight to a word, the least first.
use Rattle.std.specs.Prelude.{ℕ, zero, suc, ◌+◌, ◌-◌, ◌*◌, ◌/◌, List, length, take, drop, ◌++◌}

-- where in the k-th word they begin that they reach into; the first of them lies so far into the
-- first word
abbrev pub start_in : ℕ → ℕ → ℕ
start_in into k = into - 8 * k

-- how many of them lie before the k-th word
abbrev pub before : ℕ → ℕ → ℕ
before into k = 8 * k - into

-- into how many words so many bytes reach
abbrev pub words_for : ℕ → ℕ → ℕ
words_for into zero = 0
words_for into (suc many) = (into + many) / 8 + 1

-- those of the bytes that lie in the k-th word
abbrev pub piece : ℕ → List ℕ → ℕ → List ℕ
piece into bytes k = take (8 - start_in into k) (drop (before into k) bytes)

-- a word's bytes, with these in the place of those from there on
abbrev pub laid : ℕ → List ℕ → List ℕ → List ℕ
laid start piece bytes = take start bytes ++ piece ++ drop (start + length piece) bytes
