-- How a bank of services opens, gives its workers, and becomes a bank.
use Rattle.std.specs.Prelude.{◌≡◌, ◌≢◌, ℕ, ◌<◌, ◌≤◌, List, Option, Some, Ok, Err, MatchOption}
use Rattle.hg_bank.specs.declared.bank.TheConstants.{MAX_CORES}
use Rattle.hg_bank.specs.State.{BankState}
use Rattle.hg_bank_service.specs.declared.worker.BankWorker.{BankWorker}
use Rattle.hg_reply.specs.declared.reply.Reply.{Reply}
use Rattle.hg_reply.specs.Replies.{closed, held, no_count, no_memory, plain, valued}
use Rattle.hg_bank_service_replies.specs.Closing.{PartCloses}
use Rattle.hg_bank_service_replies.specs.Opening.{IsOpening}
use Rattle.hg_bank_service_replies.specs.Taking.{GivesWorker}
use Rattle.hg_bank_service_replies.specs.declared.part.BankPart.{BankPart}
use Rattle.hg_bank_service_replies.specs.declared.part.BankPart.TheVariants as part
use Rattle.hg_ffi.specs.declared.host_bank.HostBank.{HostBank}
use Rattle.hg_ffi.specs.Banks as bank
use Rattle.hg_ffi.specs.Opening.{Faults}
use Rattle.hg_ffi.specs.Owning.{bank_mark}
use Rattle.hg_bank_service_ffi.specs.BankParts.{Changes, Does, IsOpen, IsSame}
use Rattle.hg_bank_service_ffi.specs.declared.host_bank_part.HostBankPart.{HostBankPart}
use Rattle.hg_bank_service_ffi.specs.Owning.{bank_part_mark}

-- One that is open stays as it was; a closed one stays closed where there is no bank of so many cores,
-- and else opens, or stays closed and tells why
pub record Opens (old : HostBankPart) (text : List ℕ) (cores : ℕ) (room : List ℕ) (reply : Reply)
    (new : HostBankPart) (told : List ℕ) : Type 0 where
  pub held : old.mark ≡ bank_part_mark → (reply ≡ held) × IsSame old new × (told ≡ room)
  pub none :
      old.mark ≢ bank_part_mark → cores < 1
      → (reply ≡ no_count) × IsSame old new × (told ≡ room)
  pub many :
      old.mark ≢ bank_part_mark → MAX_CORES < cores
      → (reply ≡ no_count) × IsSame old new × (told ≡ room)
  pub opened :
      old.mark ≢ bank_part_mark → 1 ≤ cores → cores ≤ MAX_CORES → reply.status ≡ 2
      → (part : BankPart) × (reply ≡ valued 2 0) × IsOpen new part × IsOpening text cores part
      × (told ≡ room)
  pub refused :
      old.mark ≢ bank_part_mark → 1 ≤ cores → cores ≤ MAX_CORES → reply.status ≢ 2
      → IsSame old new × Faults text room reply told

-- an open bank of services gives a worker
pub record Gives (old : HostBankPart) (number : ℕ) (worker : BankWorker) (new : HostBankPart)
    : Type 0 where
  pub is_open : old.mark ≡ bank_part_mark
  pub given : Changes old (λ was is. GivesWorker was number (Ok worker) is) new

-- none is given: an open one has none to give, or there is no memory for one, and then it stays as it
-- was; a closed one is answered so, and nothing changes
pub record GivesNone (old : HostBankPart) (number : ℕ) (reply : Reply) (new : HostBankPart)
    : Type 0 where
  pub memory : reply ≡ no_memory → (old.mark ≡ bank_part_mark) × IsSame old new
  pub none :
      reply ≢ no_memory
      → Does old closed (λ was is. GivesWorker was number (Err reply) is) reply new

-- what stands where a worker goes stays where one stands already or none is given
pub record HandsOut (old : HostBankPart) (number : ℕ) (place : HostBankPart) (reply : Reply)
    (new left : HostBankPart) : Type 0 where
  pub held : place.mark ≡ bank_part_mark → (reply ≡ held) × IsSame old new × IsSame place left
  pub given :
      place.mark ≢ bank_part_mark → reply.status ≡ 2
      → (worker : BankWorker) × (reply ≡ plain 2) × IsOpen left (part.Worker worker)
      × Gives old number worker new
  pub none :
      place.mark ≢ bank_part_mark → reply.status ≢ 2
      → IsSame place left × GivesNone old number reply new

-- a part became this bank, which waits there, since there is no memory to hand it out
pub record Waits (was : BankPart) (bank : BankState) (reply : Reply) (is : BankPart) : Type 0 where
  pub made : PartCloses was (Ok bank) part.Gone
  pub waits : is ≡ part.Bank bank
  pub reply_is : reply ≡ no_memory

-- an open one makes no bank, or one that waits; a closed one is answered so, and nothing changes
abbrev pub MakesNone : HostBankPart → Reply → HostBankPart → Type 0
MakesNone old reply new =
    Does old closed (λ was is. (bank : Option BankState)
    × MatchOption bank (PartCloses was (Err reply) is) (λ bank. Waits was bank reply is)) reply new

-- an open one makes this bank
pub record Makes (old : HostBankPart) (bank : BankState) (new : HostBankPart) : Type 0 where
  pub is_open : old.mark ≡ bank_part_mark
  pub made : Changes old (λ was is. PartCloses was (Ok bank) is) new

-- what stands where the bank goes stays where one stands already or none is made
pub record Becomes (old : HostBankPart) (place : HostBank) (reply : Reply) (new : HostBankPart)
    (left : HostBank) : Type 0 where
  pub held : place.mark ≡ bank_mark → (reply ≡ held) × IsSame old new × bank.IsSame place left
  pub made :
      place.mark ≢ bank_mark → reply.status ≡ 2
      → (reply ≡ plain 2) × (left.mark ≡ bank_mark) × Makes old left.bank new
  pub none :
      place.mark ≢ bank_mark → reply.status ≢ 2
      → bank.IsSame place left × MakesNone old reply new
