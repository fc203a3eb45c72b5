-- What calls for many words, and for many blocks, do.
use Rattle.std.specs.Prelude.{◌≡◌, ◌≢◌, ℕ, ◌<◌, ◌≤◌, true, false, List, Some}
use Rattle.hg_machine.specs.Lists.{Kept, IsPartition}
use Rattle.hg_machine.specs.Soundness.{IsSound}
use Rattle.hg_place.specs.declared.Actor.{Actor}
use Rattle.hg_place.specs.declared.Handle.{Handle}
use Rattle.hg_place.specs.HandleWords.{handle_word, is_handle, ReadsWord}
use Rattle.hg_bulk.specs.declared.progress.Progress.{Progress}
use Rattle.hg_bulk.specs.Words.{ReadsWords, WritesWords}
use Rattle.hg_bulk.specs.Freeing.{FreesAll}
use Rattle.hg_reply.specs.declared.reply.Reply.{Reply}
use Rattle.hg_ffi.specs.declared.host_core.HostCore.{HostCore}
use Rattle.hg_ffi.specs.Calls.{IsSame}
use Rattle.hg_ffi.specs.Owning.{open_mark}
use Rattle.hg_reply.specs.Counts.{count_reply}
use Rattle.hg_reply.specs.Replies.{closed, no_worker, no_block, valued}

-- A worker that the policy lacks is answered so, and the core stays; else the core does what is said
-- of it, and stays sound. What else there is stays as it is where the worker is unknown
pub record Does (old : Kept) (worker : ℕ) (does : Kept → Type 0) (stays : Type 0) (reply : Reply)
    (new : Kept) : Type 0 where
  pub unknown : old.state.policy.workers ≤ worker → (reply ≡ no_worker) × (new ≡ old) × stays
  pub done :
      worker < old.state.policy.workers → does new × IsSound new.state × IsPartition new

-- an open core does it and stays open; a closed one is answered so, and nothing changes
pub record DoesAtOnce (old : HostCore) (worker : ℕ) (does : Kept → Kept → Type 0) (stays : Type 0)
    (reply : Reply) (new : HostCore) : Type 0 where
  pub shut : old.mark ≢ open_mark → (reply ≡ closed) × IsSame old new × stays
  pub done :
      old.mark ≡ open_mark
      → Does old.core worker (does old.core) stays reply new.core × (new.mark ≡ open_mark)

-- the same for the block that a word names, read as the one handle that it is, or as none
pub record DoesOn (old : HostCore) (worker word : ℕ) (does : Handle → Kept → Kept → Type 0)
    (stays : Type 0) (reply : Reply) (new : HostCore) : Type 0 where
  pub named :
      is_handle word ≡ true
      → (handle : Handle) × (word ≡ handle_word handle) × ReadsWord word (Some handle)
      × DoesAtOnce old worker (does handle) stays reply new
  pub unnamed : is_handle word ≡ false → (reply ≡ no_block) × IsSame old new × stays

-- the words of a block are read into the room, as far as none is refused
abbrev pub ReadsInto : ℕ → Actor → ℕ → List ℕ → List ℕ → Reply → Handle → Kept → Kept → Type 0
ReadsInto worker actor first room told reply handle old new =
    (made : Progress) × ReadsWords old worker actor handle first room made new told
    × (reply ≡ count_reply made.done made.refused)

-- the words are written into a block, as far as none is refused
abbrev pub WritesFrom : ℕ → Actor → ℕ → List ℕ → Reply → Handle → Kept → Kept → Type 0
WritesFrom worker actor first words reply handle old new =
    (made : Progress) × WritesWords old worker actor handle first words made new
    × (reply ≡ count_reply made.done made.refused)

-- the owner's blocks that the worker holds are freed, as far as the actor may
abbrev pub Unloads : ℕ → Actor → ℕ → Reply → Kept → Kept → Type 0
Unloads worker actor owner reply old new =
    (count : ℕ) × FreesAll old worker actor owner count new × (reply ≡ valued 2 count)
