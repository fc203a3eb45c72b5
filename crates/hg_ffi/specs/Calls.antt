-- What a call of a host does.
use Rattle.std.specs.Prelude.{◌≡◌, ◌≢◌, ℕ, ◌<◌, ◌≤◌, true, false, Some}
use Rattle.hg_machine.specs.declared.Answer.{Answer}
use Rattle.hg_machine.specs.declared.Event.{Event}
use Rattle.hg_machine.specs.Lists.{Kept, IsPartition}
use Rattle.hg_machine.specs.Soundness.{IsSound}
use Rattle.hg_choice.specs.ChosenSteps.{ChosenStep}
use Rattle.hg_place.specs.declared.Handle.{Handle}
use Rattle.hg_place.specs.declared.Place.{Place}
use Rattle.hg_place.specs.Places.{number_of}
use Rattle.hg_place.specs.HandleWords.{handle_word, is_handle, is_place, ReadsWord}
use Rattle.hg_reply.specs.declared.reply.Reply.{Reply}
use Rattle.hg_ffi.specs.declared.host_core.HostCore.{HostCore}
use Rattle.hg_ffi.specs.Owning.{open_mark}
use Rattle.hg_reply.specs.Replies.{reply_of, plain, closed, no_worker, no_block}

-- it is open or closed as it was, with the same core
abbrev pub IsSame : HostCore → HostCore → Type 0
IsSame old new = (new.mark ≡ old.mark) × (new.core ≡ old.core)

-- A worker that the policy lacks is answered so, and nothing changes; else the core makes one step
-- of the machine with its choices, the reply stands for its answer, and the core stays sound
pub record Steps (old : Kept) (worker : ℕ) (event : Event) (reply : Reply) (new : Kept)
    : Type 0 where
  pub unknown : old.state.policy.workers ≤ worker → (reply ≡ no_worker) × (new ≡ old)
  pub step :
      worker < old.state.policy.workers
      → (answer : Answer) × ChosenStep old worker event answer new
      × (reply ≡ reply_of answer) × IsSound new.state × IsPartition new

-- an open core steps and stays open; a closed one is answered so, and nothing changes
pub record Serves (old : HostCore) (worker : ℕ) (event : Event) (reply : Reply) (new : HostCore)
    : Type 0 where
  pub shut : old.mark ≢ open_mark → (reply ≡ closed) × IsSame old new
  pub steps :
      old.mark ≡ open_mark
      → Steps old.core worker event reply new.core × (new.mark ≡ open_mark)

-- the same for the block that a word names, read as the one handle that it is, or as none
pub record ServesOn (old : HostCore) (worker word : ℕ) (event : Handle → Event) (reply : Reply)
    (new : HostCore) : Type 0 where
  pub named :
      is_handle word ≡ true
      → (handle : Handle) × (word ≡ handle_word handle) × ReadsWord word (Some handle)
      × Serves old worker (event handle) reply new
  pub unnamed : is_handle word ≡ false → (reply ≡ no_block) × IsSame old new

-- the same for a place that is named by a number, which may be no place's
pub record ServesAt (old : HostCore) (worker number : ℕ) (event : Place → Event) (reply : Reply)
    (new : HostCore) : Type 0 where
  pub named :
      is_place number ≡ true
      → (place : Place) × (number ≡ number_of place)
      × Serves old worker (event place) reply new
  pub unnamed : is_place number ≡ false → (reply ≡ no_block) × IsSame old new

-- an open core is closed; a closed one is answered so, and nothing changes
pub record Closes (old : HostCore) (reply : Reply) (new : HostCore) : Type 0 where
  pub shut : old.mark ≢ open_mark → (reply ≡ closed) × IsSame old new
  pub closes : old.mark ≡ open_mark → (reply ≡ plain 2) × (new.mark ≢ open_mark)
