-- The worker of one core is asked.
use Rattle.std.specs.Prelude.{◌≡◌, ℕ, List, Option, Some, MatchOption, slice_get, slice_set}
use Rattle.hg_place.specs.declared.Actor.{Actor}
use Rattle.hg_place.specs.declared.Handle.{Handle}
use Rattle.hg_machine.specs.declared.Answer.{Answer}
use Rattle.hg_machine.specs.declared.Event.{Event}
use Rattle.hg_worker.specs.Answers.{block_in}
use Rattle.hg_worker.specs.Charged.{AreKept}
use Rattle.hg_hosted.specs.declared.worker.HostedWorker.{HostedWorker}
use Rattle.hg_hosted.specs.Calls.{Allocates}
use Rattle.hg_hosted.specs.Reaching.{Reaches}
use Rattle.hg_hosted.specs.Serving.{Serves}
use Rattle.hg_hosted.specs.Steps.{Does}
use Rattle.hg_hosted.specs.Waiting.{Waits}
use Rattle.hg_hosted.specs.Has.{Has}

-- the worker of a core does what the event asks, or finds that another call has what it needs; and
-- each other is as it was
pub record ServesAt (core : ℕ) (event : Event) (result : Option Answer)
    (old new : List HostedWorker) : Type 0 where
  pub was : HostedWorker
  pub next : HostedWorker
  pub there : slice_get old core ≡ Some was
  pub after : new ≡ slice_set old core next
  pub served :
      MatchOption result (Serves (Waits event) was next)
      (λ answer. Serves (Does event answer) was next)
  pub reach : Reaches event was next

-- the worker of a core is asked for a block, and gives this one, or none; and each other is as it was
pub record AllocatesAt (core : ℕ) (actor : Actor) (arena bytes : ℕ) (block : Option Handle)
    (old new : List HostedWorker) : Type 0 where
  pub was : HostedWorker
  pub next : HostedWorker
  pub there : slice_get old core ≡ Some was
  pub after : new ≡ slice_set old core next
  pub told : Answer
  pub gives : block ≡ block_in told
  pub served : Serves (Allocates actor arena bytes told) was next
  pub shared : next.shared ≡ was.shared
  pub kept : Has (λ state. AreKept state.heap.segments) was
