-- What is known of a writer.
use Rattle.std.specs.Prelude.{◌≡◌, ℕ, Bool, true, List, Option, Result, MatchResult}
use Rattle.std.specs.Io.KnownBytes.{WriteAppends}

-- the bytes that it holds, where they are known, and whether a write of it has failed or has taken
-- nothing
pub record Seen : Type 0 where
  pub contents : Option (List ℕ)
  pub has_stopped : Bool

-- a write grows the known bytes by what it takes of its text, from the front on, and an error by
-- nothing
abbrev pub WritesSome : {E : Type 0} → Seen → Seen → Result ℕ E → List ℕ → Type 0
WritesSome old new written text = WriteAppends old.contents new.contents written text

-- a write that takes nothing, or that fails, is seen to have stopped
abbrev pub MarksStop : {E : Type 0} → Result ℕ E → Seen → Type 0
MarksStop written new =
    MatchResult written (λ n. n ≡ 0 → new.has_stopped ≡ true) (λ _. new.has_stopped ≡ true)
