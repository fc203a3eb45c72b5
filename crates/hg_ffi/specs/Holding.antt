-- Who holds a segment, and what a tenant is charged with a worker.
use Rattle.std.specs.Prelude.{◌≡◌, ◌≢◌, ℕ, ◌<◌, ◌≤◌, length}
use Rattle.hg_machine.specs.Charge.{charge}
use Rattle.hg_machine.specs.Lists.{Kept}
use Rattle.hg_machine.specs.State.{holder_at}
use Rattle.hg_core.specs.Held.{worker_in}
use Rattle.hg_reply.specs.declared.reply.Reply.{Reply}
use Rattle.hg_ffi.specs.declared.lent_core.LentCore.{LentCore}
use Rattle.hg_reply.specs.Holding.{holding}
use Rattle.hg_reply.specs.Naming.{nobody}
use Rattle.hg_ffi.specs.Owning.{open_mark}
use Rattle.hg_reply.specs.Replies.{closed, no_worker, no_name, valued}

-- Where nobody holds the segment, or the core is closed, the value is nobody's
pub record TellsHolder (host : LentCore) (segment : ℕ) (reply : Reply) : Type 0 where
  pub shut : host.mark ≢ open_mark → reply ≡ valued 64 nobody
  pub told :
      host.mark ≡ open_mark → reply ≡ holding (worker_in (holder_at host.core.state segment))

-- what counts against the tenant's limit with the worker; a worker that the policy lacks is
-- answered so, and then a tenant that it lacks
pub record IsCharged (core : Kept) (worker tenant : ℕ) (reply : Reply) : Type 0 where
  pub unknown : core.state.policy.workers ≤ worker → reply ≡ no_worker
  pub stranger :
      worker < core.state.policy.workers → length core.state.policy.tenants ≤ tenant
      → reply ≡ no_name
  pub charged :
      worker < core.state.policy.workers → tenant < length core.state.policy.tenants
      → reply ≡ valued 4 (charge core.state worker tenant)

pub record TellsCharge (host : LentCore) (worker tenant : ℕ) (reply : Reply) : Type 0 where
  pub shut : host.mark ≢ open_mark → reply ≡ closed
  pub told : host.mark ≡ open_mark → IsCharged host.core worker tenant reply
