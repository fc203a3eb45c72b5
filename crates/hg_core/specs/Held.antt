-- Who holds a segment, as a number.
use Rattle.std.specs.Prelude.{ℕ, Option, Some, None}
use Rattle.hg_machine.specs.State.{Holder, fresh, orphan, held}

-- the worker that holds it, if one does
abbrev pub worker_in : Holder → Option ℕ
worker_in fresh = None
worker_in orphan = None
worker_in (held worker) = Some worker
