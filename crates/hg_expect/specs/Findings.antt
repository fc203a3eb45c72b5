-- What a line states, and what is found of it.
use Rattle.std.specs.Prelude.{◌≡◌, ℕ, ◌+◌, ◌==◌, Bool, List, [], ◌++◌, Option, Some, None, map, drop}
use Rattle.std.specs.Prelude.{take, codes, decimal, bytes_eq, if◌then◌else◌}
use Rattle.memchr.specs.Find.{FindsNeedle}
use Rattle.hg_policy_text.specs.OneLine.{one_line}
use Rattle.hg_expect.specs.Words.{words, last_line, shown, is_slip}

-- the lines of a trace that were answered otherwise than they state, as a diff; how many state an
-- answer, and how many of these differ; how many have a slip instead, and the number of the first,
-- 0 where none has
pub record Findings : Type 0 where
  pub hunks : List ℕ
  pub stated : ℕ
  pub differ : ℕ
  pub slips : ℕ
  pub slip : ℕ

abbrev pub nothing : Findings
nothing = record { hunks = []; stated = 0; differ = 0; slips = 0; slip = 0 }

-- where a line stands
unfoldable pub place_text : ℕ → List ℕ
place_text number =
    codes "@@ -" ++ decimal number ++ codes " +" ++ decimal number ++ codes " @@\n"

-- a line as it is, and as it would be with this answer, where its answer begins behind so many bytes
unfoldable pub hunk : ℕ → List ℕ → ℕ → List ℕ → List ℕ
hunk number line front answer =
    place_text number
    ++ codes "-" ++ map shown line
    ++ codes "\n+" ++ map shown (take front line) ++ answer ++ codes "\n"

-- the words of what a line states behind so many bytes are those of the answer
abbrev pub agrees : List ℕ → ℕ → List ℕ → Bool
agrees line front answer = bytes_eq (words (drop front line)) answer

-- what is found of a line that states an answer behind so many bytes
abbrev pub found_after : Findings → ℕ → List ℕ → ℕ → List ℕ → Findings
found_after found number line front answer =
    if agrees line front answer then record found { stated = found.stated + 1 }
    else
    record found {
      hunks = found.hunks ++ hunk number line front answer;
      stated = found.stated + 1;
      differ = found.differ + 1;
    }

-- what is found of a line that states none: whether it has a slip
abbrev pub found_unmarked : Findings → ℕ → List ℕ → Findings
found_unmarked found number line =
    if is_slip line then
    record found {
      slips = found.slips + 1;
      slip = if found.slips == 0 then number else found.slip;
    }
    else found

-- what is found of a line, where the mark may stand in it
abbrev pub found_at : Findings → ℕ → List ℕ → List ℕ → Option ℕ → Findings
found_at found number line answer None = found_unmarked found number line
found_at found number line answer (Some at) = found_after found number line (at + 4) answer

-- a line that has the mark `# =>` states behind the first one the answer that it is to have, and one
-- without it may have a slip: this is found of it, where a replay would print this text for it
abbrev pub Finds : Findings → ℕ → List ℕ → List ℕ → Findings → Type 0
Finds found number line text next =
    (mark : Option ℕ) × FindsNeedle line (codes "# =>") 0 mark
    × (next ≡ found_at found number line (words (last_line text)) mark)

-- the name of a file, as it is told, where some of its lines differ
unfoldable pub names_text : List ℕ → List ℕ
names_text told = codes "--- " ++ told ++ codes "\n+++ " ++ told ++ codes "\n"

-- how many lines of a file state an answer, and how many of them differ, behind its name as it is told
unfoldable pub counts_text : List ℕ → ℕ → ℕ → List ℕ
counts_text told stated differ =
    told ++ codes ": expected " ++ decimal stated ++ codes " differ " ++ decimal differ ++ codes "\n"

-- what is told of a trace: its name in one line, in which control characters and the like are written
-- out, however the file is named
abbrev pub trace_text : List ℕ → Findings → List ℕ
trace_text name found =
    (if found.differ == 0 then [] else names_text (one_line name) ++ found.hunks)
    ++ counts_text (one_line name) found.stated found.differ

-- what is warned of in a trace of this name: that nothing is expected in it, and what may be a slip
unfoldable pub unstated_warning : List ℕ → List ℕ
unstated_warning told = codes "warning: " ++ told ++ codes ": no line states an answer\n"

unfoldable pub slip_warning : List ℕ → ℕ → ℕ → List ℕ
slip_warning told slip slips =
    codes "warning: " ++ told ++ codes ": line " ++ decimal slip
    ++ codes " states nothing: an answer stands behind `# =>` (such lines: " ++ decimal slips
    ++ codes ")\n"

abbrev pub warnings : List ℕ → Findings → List ℕ
warnings name found =
    (if found.stated == 0 then unstated_warning (one_line name) else [])
    ++ (if found.slips == 0 then [] else slip_warning (one_line name) found.slip found.slips)
