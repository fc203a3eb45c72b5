-- How far a call for many words came, as it is told.
use Rattle.std.specs.Prelude.{ℕ, Option, None, Some}
use Rattle.hg_heap.specs.declared.refused.Refused.{Refused}
use Rattle.hg_heap.specs.Answers.{refused_answer}
use Rattle.hg_reply.specs.declared.reply.Reply.{Reply}
use Rattle.hg_reply.specs.Replies.{reply_of, valued}

-- all was done, or the reply to what was refused; the value is how many were done
abbrev pub count_reply : ℕ → Option Refused → Reply
count_reply done None = valued 2 done
count_reply done (Some why) = record (reply_of (refused_answer why)) { value = done }
