-- How a part of a service is given up.
use Rattle.std.specs.Prelude.{◌≡◌}
use Rattle.hg_reply.specs.declared.reply.Reply.{Reply}
use Rattle.hg_reply.specs.Replies.{plain}
use Rattle.hg_service_replies.specs.declared.part.HostedPart.{HostedPart}
use Rattle.hg_service_replies.specs.declared.part.HostedPart.TheVariants as part
use Rattle.hg_service_replies.specs.Serving.{IsOther}

-- it is gone
abbrev pub Goes : Reply → HostedPart → Type 0
Goes reply new = (reply ≡ plain 2) × (new ≡ part.Gone)

-- a worker is; any other part is answered as closed, and stays
abbrev pub DropsWorker : HostedPart → Reply → HostedPart → Type 0
DropsWorker (part.Worker worker) reply new = Goes reply new
DropsWorker (part.Service service) reply new = IsOther (part.Service service) reply new
DropsWorker (part.Core core) reply new = IsOther (part.Core core) reply new
DropsWorker (part.Left gone) reply new = IsOther (part.Left gone) reply new
DropsWorker part.Gone reply new = IsOther part.Gone reply new

-- a service is, or the core that it became; any other part is answered as closed, and stays
abbrev pub DropsService : HostedPart → Reply → HostedPart → Type 0
DropsService (part.Worker worker) reply new = IsOther (part.Worker worker) reply new
DropsService (part.Service service) reply new = Goes reply new
DropsService (part.Core core) reply new = Goes reply new
DropsService (part.Left gone) reply new = IsOther (part.Left gone) reply new
DropsService part.Gone reply new = IsOther part.Gone reply new
