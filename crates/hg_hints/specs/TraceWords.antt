-- What is told of a word that is at fault in a line of a trace.
use Rattle.std.specs.Prelude.{◌++◌, ◌&&◌, ℕ, Bool, List, [], ◌∷◌, Option, Some, None, codes, decimal, drop}
use Rattle.std.specs.Prelude.{length, map, max, nat_le, replicate, take, if◌then◌else◌}
use Rattle.std.specs.Str.{is_utf8}
use Rattle.hg_trace.specs.Lines.{is_allowed, is_blank}
use Rattle.hg_trace.specs.declared.faulty.FaultyWord.{FaultyWord}
use Rattle.hg_trace.specs.declared.wanted.Wanted.{Wanted}
use Rattle.hg_trace.specs.declared.wanted.Wanted.TheVariants as wanted
use Rattle.hg_hints.specs.Near.{near}
use Rattle.hg_hints.specs.Reasons.{like_text}

abbrev pub wanted_text : Wanted → List ℕ
wanted_text wanted.Byte = codes "wanted: a blank, or a byte from 21 to 7E (hexadecimal)"
wanted_text wanted.Worker = codes "wanted: a worker, w0 to w15"
wanted_text wanted.Command =
    codes "wanted: alloc, free, deliver, take, collect, read, write, look, list, abandon or refill"
wanted_text wanted.Actor =
    codes "wanted: a tenant, 1 to 16 of a to z, 0 to 9, _ and -, the first a letter"
wanted_text wanted.Arena =
    codes "wanted: an arena, 1 to 16 of a to z, 0 to 9, _ and -, the first a letter"
wanted_text wanted.Bytes = codes "wanted: how many bytes, a whole number from 0 to 18446744073709551615"
wanted_text wanted.Segment = codes "wanted: a segment, a whole number from 0 to 63"
wanted_text wanted.Index =
    codes "wanted: which word of the block, a whole number from 0 to 4294967295"
wanted_text wanted.Value = codes "wanted: a value, a whole number from 0 to 18446744073709551615"
wanted_text wanted.Place = codes "wanted: a place, its segment, page and index, as 0.1.2"
wanted_text wanted.Block = codes "wanted: a block, by its handle, as @0.1.2.3, or by its label"
wanted_text wanted.As = codes "wanted: as and a label, or nothing more"
wanted_text wanted.Label =
    codes "wanted: a label, 1 to 16 of a to z, 0 to 9, _ and -, the first a letter"
wanted_text wanted.Nothing = codes "wanted: nothing more"
wanted_text wanted.GivenLabel = codes "wanted: a label that a line above gives"
wanted_text wanted.NewLabel = codes "wanted: a label that no line above gives"

abbrev pub commands : List (List ℕ)
commands =
    codes "alloc" ∷ codes "free" ∷ codes "deliver" ∷ codes "take" ∷ codes "collect" ∷ codes "read"
    ∷ codes "write" ∷ codes "look" ∷ codes "list" ∷ codes "abandon" ∷ codes "refill" ∷ []

-- the bytes of the word
abbrev pub bytes_of : FaultyWord → List ℕ
bytes_of word = take word.width (drop word.column word.text.now)

-- the command that a word is like
abbrev pub command_like : List ℕ → Option (List ℕ)
command_like text = if is_utf8 text then near commands text else None

-- what is told of it: of a command the one that it is like, if one is, and else what is wanted
abbrev pub told_as : Wanted → List ℕ → List ℕ
told_as wanted.Command text = like_text (wanted_text wanted.Command) (command_like text)
told_as form text = wanted_text form

abbrev pub told : FaultyWord → List ℕ
told word = told_as word.wanted (bytes_of word)

-- a byte as it is shown: each blank as a space, and for one that can't stand in a line a question mark
abbrev pub shown : ℕ → ℕ
shown b = if is_blank b then 32 else (if is_allowed b then b else 63)

-- the line, and what is told of the word below it
unfoldable pub caret_text : List ℕ → ℕ → ℕ → List ℕ → List ℕ
caret_text text column width words =
    codes "  " ++ map shown text ++ codes "\n  " ++ replicate column 32
    ++ replicate (max 1 width) 94 ++ codes " " ++ words ++ codes "\n"

-- the same of a line that is too long for that
unfoldable pub far_text : ℕ → List ℕ → List ℕ
far_text column words =
    codes "  behind " ++ decimal column ++ codes " bytes: " ++ words ++ codes "\n"

abbrev pub word_text : FaultyWord → List ℕ
word_text word =
    if nat_le (length word.text.now) 100
    then caret_text word.text.now word.column word.width (told word)
    else far_text word.column (told word)
