-- What a race counts, and the line that tells it.
use Rattle.std.specs.Prelude.{◌≤◌, ◌+◌, ◌*◌, ℕ, ◌++◌, List, codes, decimal}
use Rattle.hg_machine.specs.declared.Answer.{Answer}
use Rattle.hg_machine.specs.declared.Answer.TheVariants as answer
use Rattle.hg_machine.specs.declared.Rule.TheVariants as rule

-- 1 for an answer to a free that ended the block's life
abbrev pub ends : Answer → ℕ
ends answer.Done = 1
ends answer.Parted = 1
ends _ = 0

-- 1 for one that found the block freed
abbrev pub finds_freed : Answer → ℕ
finds_freed (answer.Denied rule.AlreadyFreed) = 1
finds_freed _ = 0

-- no more rounds than this, with two answers each
pub record AreCounts (most rounds ended freed : ℕ) : Type 0 where
  pub few : rounds ≤ most
  pub two_each : ended + freed ≤ 2 * rounds

-- the rounds, the answers that ended a life, and those that found the block freed
unfoldable pub counts_line : ℕ → ℕ → ℕ → List ℕ
counts_line rounds ended freed =
    codes "rounds " ++ decimal rounds
    ++ codes " ended " ++ decimal ended
    ++ codes " freed " ++ decimal freed
    ++ codes "\n"
