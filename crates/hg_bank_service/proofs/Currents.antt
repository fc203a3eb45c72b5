-- The core that served is current.
use Rattle.std.proofs.Common.{ℕ, ◌<◌, inl, inr, List, length, slice_index, slice_set, arith}
use Rattle.std.proofs.lemmas.Option.{slice_get_within}
use Rattle.hg_machine.proofs.Keeps.{set_cases}
use Rattle.hg_hosted.specs.declared.worker.HostedWorker.{HostedWorker}
use Rattle.hg_bank_service.specs.Choosing.{IsServed}

-- a core that served is there
pub served_there : {Asked Served : HostedWorker → HostedWorker → Type 0} {current core : ℕ}
    {old new : List HostedWorker} (currents : List ℕ) (arena : ℕ)
    → ((other : ℕ) → slice_index currents other < length old)
    → IsServed Asked Served current core old new
    → (other : ℕ) → slice_index (slice_set currents arena core) other < length new
served_there {core = core} {new = new} currents arena there served other =
    let all = served.all in
    elim (set_cases currents arena other core 0) [
      | inl here ↦
          (let now = here.1 in
          let below = slice_get_within new core served.next served.is in
          omega arith)
      | inr same ↦ (let low = there other in let was = same in omega arith)
    ]
