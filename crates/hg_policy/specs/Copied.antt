-- Names as texts.
use Rattle.std.specs.Prelude.{ℕ, List, map, string_bytes}
use Rattle.hg_policy.specs.Kept.{Named}

-- each name as its text, with what stands beside it
abbrev pub by_text : {A : Type 0} → Named A → List (List ℕ × A)
by_text named = map (λ one. (string_bytes one.0, one.1)) named
