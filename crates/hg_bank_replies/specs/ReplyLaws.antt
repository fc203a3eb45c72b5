-- A host knows an answer of a bank by its reply, and of which core it is.
use Rattle.std.specs.Prelude.{◌≡◌, ℕ, Some}
use Rattle.hg_machine.specs.declared.Answer.{Answer}
use Rattle.hg_machine.specs.declared.Answer.TheVariants as answer
use Rattle.hg_bank_replies.specs.Replies.{placed_reply}
use Rattle.hg_reply.specs.ReplyLaws.{HasHandle}

-- a block or a segment is given, by some core
abbrev pub IsPlaced : Answer → Type 0
IsPlaced (answer.Block handle) = Unit {0}
IsPlaced (answer.Refilled segment) = Unit {0}
IsPlaced other = ⊥

-- two answers with one reply are one answer, and what they give is of one core
abbrev pub BankRepliesAreApart : Type 0
BankRepliesAreApart =
    (one other : Answer) (core away : ℕ) → HasHandle one → HasHandle other
    → placed_reply (Some core) one ≡ placed_reply (Some away) other
    → (one ≡ other) × (IsPlaced one → core ≡ away)
