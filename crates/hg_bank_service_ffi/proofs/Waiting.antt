-- A bank of services that became a bank, which waits for memory.
use Rattle.std.proofs.Common.{Ok, refl}
use Rattle.hg_bank.specs.State.{BankState}
use Rattle.hg_bank_service_replies.specs.Closing.{PartCloses}
use Rattle.hg_bank_service_replies.specs.declared.part.BankPart.{BankPart}
use Rattle.hg_bank_service_replies.specs.declared.part.BankPart.TheVariants as part

-- who became a bank is gone
pub closes_gone : (was : BankPart) (bank : BankState) (new : BankPart) → PartCloses was (Ok bank) new → PartCloses was (Ok bank) part.Gone
closes_gone (part.Service opened) bank new closes = (refl, closes.1)
closes_gone (part.Bank old) bank new closes = (refl, closes.1)
closes_gone (part.Worker worker) bank new closes = absurd closes
closes_gone (part.Leaving left) bank new closes = absurd closes
closes_gone (part.Left gone) bank new closes = absurd closes
closes_gone part.Gone bank new closes = absurd closes
