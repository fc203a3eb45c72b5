-- What is told of a line, as text or as JSON.
use Rattle.std.specs.Prelude.{ℕ, List, ◌++◌, Option}
use Rattle.hg_replay.specs.declared.replaying.told.Told.{Told}
use Rattle.hg_reasons.specs.AsJson.{line_object}
use Rattle.hg_reasons.specs.AsText.{line_text, reply_text}
use Rattle.hg_reasons.specs.Counts.{counted}
use Rattle.hg_reasons.specs.declared.form.Form.{Form}
use Rattle.hg_reasons.specs.declared.form.Form.TheVariants as form

-- a line of this number and text came to this, printed this reply, and has this reason, if any
abbrev pub line_told : Form → ℕ → List ℕ → Told → List ℕ → Option (List ℕ) → List ℕ
line_told form.Text number text told reply reason = line_text number text ++ reply_text reply reason
line_told form.Json number text told reply reason =
    line_object number text (counted told).kind reply reason
