-- How a part of a bank of services is given up.
use Rattle.std.specs.Prelude.{◌≡◌}
use Rattle.hg_reply.specs.declared.reply.Reply.{Reply}
use Rattle.hg_reply.specs.Replies.{plain}
use Rattle.hg_bank_service_replies.specs.declared.part.BankPart.{BankPart}
use Rattle.hg_bank_service_replies.specs.declared.part.BankPart.TheVariants as part
use Rattle.hg_bank_service_replies.specs.Serving.{IsOther}

-- it is gone
abbrev pub Goes : Reply → BankPart → Type 0
Goes reply new = (reply ≡ plain 2) × (new ≡ part.Gone)

-- a worker is, also one that is leaving; any other part is answered as closed, and stays
abbrev pub DropsWorker : BankPart → Reply → BankPart → Type 0
DropsWorker (part.Worker worker) reply new = Goes reply new
DropsWorker (part.Leaving left) reply new = Goes reply new
DropsWorker (part.Service opened) reply new = IsOther (part.Service opened) reply new
DropsWorker (part.Bank bank) reply new = IsOther (part.Bank bank) reply new
DropsWorker (part.Left gone) reply new = IsOther (part.Left gone) reply new
DropsWorker part.Gone reply new = IsOther part.Gone reply new

-- a bank of services is, or the bank that it became; any other part is answered as closed, and stays
abbrev pub DropsService : BankPart → Reply → BankPart → Type 0
DropsService (part.Worker worker) reply new = IsOther (part.Worker worker) reply new
DropsService (part.Leaving left) reply new = IsOther (part.Leaving left) reply new
DropsService (part.Service opened) reply new = Goes reply new
DropsService (part.Bank bank) reply new = Goes reply new
DropsService (part.Left gone) reply new = IsOther (part.Left gone) reply new
DropsService part.Gone reply new = IsOther part.Gone reply new
