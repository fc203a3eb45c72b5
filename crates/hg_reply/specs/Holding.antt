-- Who holds a segment, as it is told.
use Rattle.std.specs.Prelude.{ℕ, Option, Some, None}
use Rattle.hg_reply.specs.declared.reply.Reply.{Reply}
use Rattle.hg_reply.specs.Naming.{nobody}
use Rattle.hg_reply.specs.Replies.{valued}

-- the worker, or that nobody holds the segment
abbrev pub holding : Option ℕ → Reply
holding (Some worker) = valued 4 worker
holding None = valued 22 nobody
