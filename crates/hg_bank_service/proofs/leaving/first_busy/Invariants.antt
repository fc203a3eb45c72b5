use Rattle.std.proofs.Common.{◌≡◌, ℕ, ◌<◌, Some, slice_get}
use Rattle.hg_hosted.specs.Leaving.{IsIdle}
use Rattle.hg_hosted.specs.Has.{Has}
use Rattle.hg_bank_service.proofs.leaving.first_busy.Given as goal

abbrev pub invariant-loop-core : goal.invariant-loop-core
invariant-loop-core l =
    (k : ℕ) (one : _) → k < l.core → slice_get l.workers k ≡ Some one → Has IsIdle one
