-- A host knows an answer by its reply.
use Rattle.std.specs.Prelude.{◌≡◌, ℕ, ◌<◌, ◌^◌}
use Rattle.hg_machine.specs.declared.Answer.{Answer}
use Rattle.hg_machine.specs.declared.Answer.TheVariants as answer
use Rattle.hg_reply.specs.Replies.{reply_of}

-- a handle in the answer has a generation of 32 bits, as each handle that is given out
abbrev pub HasHandle : Answer → Type 0
HasHandle (answer.Block handle) = handle.generation < 2 ^ 32
HasHandle (answer.Listed row) = row.handle.generation < 2 ^ 32
HasHandle _ = Unit {0}

-- two answers with one reply are one answer
abbrev pub RepliesAreApart : Type 0
RepliesAreApart =
    (one other : Answer) → HasHandle one → HasHandle other → reply_of one ≡ reply_of other
    → one ≡ other
