-- Calls on blocks and places that C names by numbers.
use Rattle.std.proofs.Common.{◌≡◌, ℕ, Bool, true, false, T, sym, ◌∙◌, subst, Some}
use Rattle.hg_machine.specs.declared.Event.{Event}
use Rattle.hg_place.specs.declared.Handle.{Handle}
use Rattle.hg_place.specs.declared.Place.{Place}
use Rattle.hg_place.specs.Places.{number_of}
use Rattle.hg_place.specs.HandleWords.{handle_word, is_handle, is_place, ReadsWord}
use Rattle.hg_reply.specs.declared.reply.Reply.{Reply}
use Rattle.hg_ffi.specs.declared.host_core.HostCore.{HostCore}
use Rattle.hg_machine.specs.Lists.{Kept}
use Rattle.hg_ffi.specs.Calls.{Serves, ServesOn, ServesAt}
use Rattle.hg_ffi.specs.AtOnce.{DoesAtOnce, DoesOn}
use Rattle.hg_bank_replies.specs.declared.block.BankBlock.{BankBlock}
use Rattle.hg_bank_replies.specs.Blocks.{core_of}
use Rattle.hg_ffi.specs.declared.host_bank.HostBank.{HostBank}
use Rattle.hg_bank.specs.State.{BankState}
use Rattle.hg_ffi.specs.Banks as banks
use Rattle.hg_ffi.specs.BankAtOnce as many
use Rattle.hg_ffi.specs.declared.host_part.HostPart.{HostPart}
use Rattle.hg_ffi.specs.Parts as parts
use Rattle.hg_bank_service_ffi.specs.BankParts as bank_parts
use Rattle.hg_bank_service_ffi.specs.declared.host_bank_part.HostBankPart.{HostBankPart}

both_ways : {X : Type 0} {b : Bool} → b ≡ true → b ≡ false → X
both_ways is isnt = absurd (subst T (sym is ∙ isnt) tt)

pub on_handle : {old new : HostCore} {worker word : ℕ} {event : Handle → Event} {reply : Reply} (handle : Handle)
    → (is_handle word ≡ true) × (word ≡ handle_word handle) → ReadsWord word (Some handle) → Serves old worker (event handle) reply new → ServesOn old worker word event reply new
on_handle handle is read serves = record {
  named = λ _. (handle, is.1, read, serves);
  unnamed = λ no. both_ways is.0 no;
}

pub at_place : {old new : HostCore} {worker number : ℕ} {event : Place → Event} {reply : Reply} (place : Place)
    → (is_place number ≡ true) × (number ≡ number_of place) → Serves old worker (event place) reply new → ServesAt old worker number event reply new
at_place place is serves = record {
  named = λ _. (place, is.1, serves);
  unnamed = λ no. both_ways is.0 no;
}

pub on_handle_at_once : {old new : HostCore} {worker word : ℕ} {does : Handle → Kept → Kept → Type 0} {stays : Type 0} {reply : Reply} (handle : Handle)
    → (is_handle word ≡ true) × (word ≡ handle_word handle) → ReadsWord word (Some handle) → DoesAtOnce old worker (does handle) stays reply new → DoesOn old worker word does stays reply new
on_handle_at_once handle is read done = record {
  named = λ _. (handle, is.1, read, done);
  unnamed = λ no. both_ways is.0 no;
}

-- the same on a bank
pub on_bank_handle : {old new : HostBank} {worker : ℕ} {block : BankBlock} {event : Handle → Event} {reply : Reply} (handle : Handle)
    → (is_handle block.handle ≡ true) × (block.handle ≡ handle_word handle) → ReadsWord block.handle (Some handle) → banks.Serves old worker (core_of block.core) (event handle) reply new → banks.ServesOn old worker block event reply new
on_bank_handle handle is read serves = record {
  named = λ _. (handle, is.1, read, serves);
  unnamed = λ no. both_ways is.0 no;
}

pub at_bank_place : {old new : HostBank} {worker core number : ℕ} {event : Place → Event} {reply : Reply} (place : Place)
    → (is_place number ≡ true) × (number ≡ number_of place) → banks.Serves old worker (core_of core) (event place) reply new → banks.ServesAt old worker core number event reply new
at_bank_place place is serves = record {
  named = λ _. (place, is.1, serves);
  unnamed = λ no. both_ways is.0 no;
}

pub on_bank_at_once : {old new : HostBank} {worker word : ℕ} {does : Handle → BankState → BankState → Type 0} {stays : Type 0} {reply : Reply} (handle : Handle)
    → (is_handle word ≡ true) × (word ≡ handle_word handle) → ReadsWord word (Some handle) → many.DoesAtOnce old worker (does handle) stays reply new → many.DoesOn old worker word does stays reply new
on_bank_at_once handle is read done = record {
  named = λ _. (handle, is.1, read, done);
  unnamed = λ no. both_ways is.0 no;
}

-- the same of a worker
pub on_part_handle : {old new : HostPart} {word : ℕ} {event : Handle → Event} {reply : Reply} (handle : Handle)
    → (is_handle word ≡ true) × (word ≡ handle_word handle) → ReadsWord word (Some handle) → parts.Serves old (event handle) reply new → parts.ServesOn old word event reply new
on_part_handle handle is read serves = record {
  named = λ _. (handle, is.1, read, serves);
  unnamed = λ no. both_ways is.0 no;
}

pub at_part_place : {old new : HostPart} {number : ℕ} {event : Place → Event} {reply : Reply} (place : Place)
    → (is_place number ≡ true) × (number ≡ number_of place) → parts.Serves old (event place) reply new → parts.ServesAt old number event reply new
at_part_place place is serves = record {
  named = λ _. (place, is.1, serves);
  unnamed = λ no. both_ways is.0 no;
}

pub on_part_word : {does : Handle → Type 0} {stays : Type 0} {word : ℕ} (handle : Handle)
    → (is_handle word ≡ true) × (word ≡ handle_word handle) → ReadsWord word (Some handle) → does handle → parts.OnWord word does stays
on_part_word handle is read done = record {
  named = λ _. (handle, is.1, read, done);
  unnamed = λ no. both_ways is.0 no;
}

-- the same of a bank worker
pub on_bank_part_handle : {old new : HostBankPart} {block : BankBlock} {event : Handle → Event} {reply : Reply} (handle : Handle)
    → (is_handle block.handle ≡ true) × (block.handle ≡ handle_word handle) → ReadsWord block.handle (Some handle) → bank_parts.Serves old (core_of block.core) (event handle) reply new → bank_parts.ServesOn old block event reply new
on_bank_part_handle handle is read serves = record {
  named = λ _. (handle, is.1, read, serves);
  unnamed = λ no. both_ways is.0 no;
}

pub at_bank_part_place : {old new : HostBankPart} {core number : ℕ} {event : Place → Event} {reply : Reply} (place : Place)
    → (is_place number ≡ true) × (number ≡ number_of place) → bank_parts.Serves old (core_of core) (event place) reply new → bank_parts.ServesAt old core number event reply new
at_bank_part_place place is serves = record {
  named = λ _. (place, is.1, serves);
  unnamed = λ no. both_ways is.0 no;
}
