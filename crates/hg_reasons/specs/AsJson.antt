-- Lines of a trace as JSON, an object each.
use Rattle.std.specs.Prelude.{ℕ, ◌-◌, ◌==◌, ◌||◌, nat_lt, List, [], ◌∷◌, ◌++◌, Option, Some, None}
use Rattle.std.specs.Prelude.{codes, decimal, drop, length, position, take, unwrap_or}
use Rattle.std.specs.Prelude.{if◌then◌else◌}
use Rattle.std.specs.List.{flat_map, prefix_len, suffix_len}
use Rattle.std.specs.Char.{is_ascii_whitespace}
use Rattle.hg_trace.specs.Lines.{is_hash}
use Rattle.hg_reasons.specs.AsText.{without_end}
use Rattle.hg_reasons.specs.Counts.{word_of}
use Rattle.hg_reasons.specs.declared.counts.Kind.{Kind}

-- a byte as a string has it: one that is neither printable ASCII nor a blank or a line's end is a `?`
abbrev pub escaped : ℕ → List ℕ
escaped b =
    if b == 34 then codes "\\\""
    else (if b == 92 then codes "\\\\"
    else (if b == 9 then codes "\\t"
    else (if b == 10 then codes "\\n"
    else (if b == 13 then codes "\\r"
    else (if nat_lt b 32 || nat_lt 126 b then codes "?" else b ∷ [])))))

-- a text as a string
unfoldable pub string : List ℕ → List ℕ
string text = codes "\"" ++ flat_map escaped text ++ codes "\""

-- a key, and a text as its value
unfoldable pub member : List ℕ → List ℕ → List ℕ
member key text = key ++ string text

-- a reason, or that there is none
unfoldable pub reason_member : Option (List ℕ) → List ℕ
reason_member None = codes ",\"reason\":null"
reason_member (Some reason) = member (codes ",\"reason\":") reason

-- a text without the blanks around it
abbrev pub trimmed : List ℕ → List ℕ
trimmed text =
    let rest = drop (prefix_len is_ascii_whitespace text) text in
    take (length rest - suffix_len is_ascii_whitespace rest) rest

-- the command of a line: without its comment, and the blanks around it
abbrev pub before_hash : List ℕ → List ℕ
before_hash text = take (unwrap_or (position is_hash text) (length text)) text

abbrev pub command_in : List ℕ → List ℕ
command_in text = trimmed (before_hash text)

-- what is told of a line
unfoldable pub line_object : ℕ → List ℕ → Kind → List ℕ → Option (List ℕ) → List ℕ
line_object number text kind reply reason =
    codes "{\"line\":" ++ decimal number
    ++ member (codes ",\"text\":") (command_in text)
    ++ member (codes ",\"kind\":") (word_of kind)
    ++ member (codes ",\"answer\":") (without_end reply)
    ++ reason_member reason ++ codes "}\n"
