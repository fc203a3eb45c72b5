-- What a host asks a core: how many workers and segments there are, and who holds a segment.
use Rattle.std.specs.Prelude.{◌≡◌, ◌≢◌, length}
use Rattle.hg_machine.specs.Lists.{Kept}
use Rattle.hg_machine.specs.Holders.{holds}
use Rattle.hg_place.specs.Words.{bit_of}
use Rattle.hg_reply.specs.declared.reply.Reply.{Reply}
use Rattle.hg_ffi.specs.declared.lent_core.LentCore.{LentCore}
use Rattle.hg_ffi.specs.declared.asking.Question.{Question}
use Rattle.hg_ffi.specs.declared.asking.Question.TheVariants as question
use Rattle.hg_ffi.specs.Owning.{open_mark}
use Rattle.hg_reply.specs.Replies.{closed, valued}

-- an open core is answered by its state, and a closed one as closed
pub record Tells (host : LentCore) (answer : Kept → Reply) (reply : Reply) : Type 0 where
  pub shut : host.mark ≢ open_mark → reply ≡ closed
  pub told : host.mark ≡ open_mark → reply ≡ answer host.core

abbrev pub answer_to : Question → Kept → Reply
answer_to question.Workers core = valued 4 core.state.policy.workers
answer_to question.Segments core = valued 4 (length core.state.policy.segments)
answer_to (question.Holds worker segment) core = valued 4 (bit_of (holds core.state worker segment))
