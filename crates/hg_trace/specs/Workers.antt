-- Workers of lines.
use Rattle.std.specs.Prelude.{ℕ, List, Option, option_map, find, nat_le}
use Rattle.hg_trace.specs.declared.line.Line.{Line}

-- the number of the first line whose worker is this one or one above it
abbrev pub first_from : ℕ → List Line → Option ℕ
first_from worker lines =
    option_map (λ line. line.number) (find (λ line. nat_le worker line.worker) lines)
