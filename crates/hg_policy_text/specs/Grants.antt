-- The words for rights.
use Rattle.std.specs.Prelude.{ℕ, List, Option, Some, None, Err, codes, if◌then◌else◌}
use Rattle.std.specs.Str.{bytes_eq}
use Rattle.toml.specs.Data.{Data, string}
use Rattle.hg_place.specs.declared.Right.{Right}
use Rattle.hg_place.specs.declared.Right.TheVariants as right
use Rattle.hg_policy_text.specs.declared.key.Key.TheVariants as key
use Rattle.hg_policy_text.specs.Faults.{Read, or_fault, kind}

-- the right of a word
abbrev pub right_of : List ℕ → Option Right
right_of text =
    if bytes_eq text (codes "read") then Some right.Read else
    (if bytes_eq text (codes "write") then Some right.Write else
    (if bytes_eq text (codes "list") then Some right.List else
    (if bytes_eq text (codes "free") then Some right.Free else None)))

abbrev pub right_in : Data → Read Right
right_in (string text) = or_fault (kind key.Rights) (right_of text)
right_in _ = Err (kind key.Rights)
