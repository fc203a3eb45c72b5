-- A service that became a core, which waits for memory.
use Rattle.std.proofs.Common.{Ok, refl}
use Rattle.hg_machine.specs.Lists.{Kept}
use Rattle.hg_service_replies.specs.Closing.{PartCloses}
use Rattle.hg_service_replies.specs.declared.part.HostedPart.{HostedPart}
use Rattle.hg_service_replies.specs.declared.part.HostedPart.TheVariants as part

-- who became a core is gone
pub closes_gone : (was : HostedPart) (core : Kept) (new : HostedPart) → PartCloses was (Ok core) new → PartCloses was (Ok core) part.Gone
closes_gone (part.Service service) core new closes = (refl, closes.1)
closes_gone (part.Core old) core new closes = (refl, closes.1)
closes_gone (part.Worker worker) core new closes = absurd closes
closes_gone (part.Left gone) core new closes = absurd closes
closes_gone part.Gone core new closes = absurd closes
