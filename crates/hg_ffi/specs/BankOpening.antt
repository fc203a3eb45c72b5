-- How a policy's text opens a bank.
use Rattle.std.specs.Prelude.{◌≡◌, ◌≢◌, ℕ, ◌<◌, ◌≤◌, List, Ok}
use Rattle.hg_machine.specs.Policy.{Policy}
use Rattle.hg_bank.specs.declared.bank.TheConstants.{MAX_CORES}
use Rattle.hg_bank.specs.Opening.{opened_bank}
use Rattle.hg_bank.specs.Sound.{IsSoundBank}
use Rattle.hg_bank.specs.State.{BankState}
use Rattle.hg_policy_text.specs.Document.{document_of}
use Rattle.hg_reply.specs.declared.reply.Reply.{Reply}
use Rattle.hg_reply.specs.Replies.{valued, held, no_count}
use Rattle.hg_ffi.specs.declared.host_bank.HostBank.{HostBank}
use Rattle.hg_ffi.specs.Banks.{IsSame}
use Rattle.hg_ffi.specs.Opening.{Faults}
use Rattle.hg_ffi.specs.Owning.{bank_mark}

-- a bank in which nothing has happened yet, of the policy that the text is, with room for so many
-- cores, of which one is open
pub record IsOpening (text : List ℕ) (cores : ℕ) (bank : BankState) : Type 0 where
  pub policy : Policy
  pub read : document_of text ≡ Ok policy
  pub first : bank ≡ opened_bank policy cores
  pub sound : IsSoundBank bank

-- A bank that is open stays as it was; a closed one stays closed where there is no bank of so many
-- cores, and else opens, or stays closed and tells why
pub record Opens (old : HostBank) (text : List ℕ) (cores : ℕ) (room : List ℕ) (reply : Reply)
    (new : HostBank) (told : List ℕ) : Type 0 where
  pub held : old.mark ≡ bank_mark → (reply ≡ held) × IsSame old new × (told ≡ room)
  pub none :
      old.mark ≢ bank_mark → cores < 1 → (reply ≡ no_count) × IsSame old new × (told ≡ room)
  pub many :
      old.mark ≢ bank_mark → MAX_CORES < cores
      → (reply ≡ no_count) × IsSame old new × (told ≡ room)
  pub opened :
      old.mark ≢ bank_mark → 1 ≤ cores → cores ≤ MAX_CORES → reply.status ≡ 2
      → (reply ≡ valued 2 0) × (new.mark ≡ bank_mark) × IsOpening text cores new.bank
      × (told ≡ room)
  pub refused :
      old.mark ≢ bank_mark → 1 ≤ cores → cores ≤ MAX_CORES → reply.status ≢ 2
      → IsSame old new × Faults text room reply told
