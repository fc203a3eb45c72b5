-- What calls for many words, and for many blocks, do to a bank in a host's hands.
use Rattle.std.specs.Prelude.{◌≡◌, ◌≢◌, ℕ, true, false, Some}
use Rattle.hg_place.specs.declared.Handle.{Handle}
use Rattle.hg_place.specs.HandleWords.{handle_word, is_handle, ReadsWord}
use Rattle.hg_bank.specs.State.{BankState}
use Rattle.hg_bank_replies.specs.AtOnce.{Does}
use Rattle.hg_reply.specs.declared.reply.Reply.{Reply}
use Rattle.hg_reply.specs.Replies.{closed, no_block}
use Rattle.hg_ffi.specs.declared.host_bank.HostBank.{HostBank}
use Rattle.hg_ffi.specs.Banks.{IsSame}
use Rattle.hg_ffi.specs.Owning.{bank_mark}

-- an open bank does it and stays open; a closed one is answered so, and nothing changes
pub record DoesAtOnce (old : HostBank) (worker : ℕ) (does : BankState → BankState → Type 0)
    (stays : Type 0) (reply : Reply) (new : HostBank) : Type 0 where
  pub shut : old.mark ≢ bank_mark → (reply ≡ closed) × IsSame old new × stays
  pub done :
      old.mark ≡ bank_mark
      → Does old.bank worker (does old.bank) stays reply new.bank × (new.mark ≡ bank_mark)

-- the same for the block that a word names, read as the one handle that it is, or as none
pub record DoesOn (old : HostBank) (worker word : ℕ)
    (does : Handle → BankState → BankState → Type 0) (stays : Type 0) (reply : Reply)
    (new : HostBank) : Type 0 where
  pub named :
      is_handle word ≡ true
      → (handle : Handle) × (word ≡ handle_word handle) × ReadsWord word (Some handle)
      × DoesAtOnce old worker (does handle) stays reply new
  pub unnamed : is_handle word ≡ false → (reply ≡ no_block) × IsSame old new × stays
