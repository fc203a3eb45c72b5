-- A Take of a core: what was sent to a segment of a worker's heap comes home.
use Rattle.std.specs.Prelude.{◌≡◌, ℕ, ◌<◌, true, false, length, slice_index, slice_index_or}
use Rattle.std.specs.Prelude.{slice_set, Contains}
use Rattle.hg_place.specs.declared.plain.PlainWords.{PlainWords}
use Rattle.hg_place.specs.Plain.{plain_words, plain_records}
use Rattle.hg_remote.specs.Remote.{Remote, nothing_sent}
use Rattle.hg_remote.specs.Order.{drained}
use Rattle.hg_segment.specs.Kept.{Kept}
use Rattle.hg_segment.specs.Settled.{IsSettled}
use Rattle.hg_segment.specs.Parted.{plain_number}
use Rattle.hg_heap.specs.Held.{Held, is_held}
use Rattle.hg_heap.specs.Taking.{Takes}
use Rattle.hg_machine.specs.declared.Event.TheVariants as event
use Rattle.hg_machine.specs.declared.Answer.TheVariants as answer
use Rattle.hg_machine.specs.SoundPolicy.{IsSoundPolicy}
use Rattle.hg_machine.specs.Steps.{Step}
use Rattle.hg_agreement.specs.Parts.{state_of}
use Rattle.hg_parts.specs.Tidy.{IsTidy}
use Rattle.hg_events.specs.Core.{Core, parts_of, heap_of}

-- a step at a place of plain words shows the word that stands there, and leaves this one
abbrev pub plain_shows : PlainWords → ℕ → ℕ → Type 0
plain_shows s at word = word ≡ slice_index (plain_words s) at

abbrev pub plain_steps : PlainWords → ℕ → ℕ → ℕ → PlainWords → Type 0
plain_steps s at found left t = plain_words t ≡ slice_set (plain_words s) at left

-- the remote list of a segment
abbrev pub remote_of : Core → ℕ → Remote
remote_of core segment = slice_index_or core.remotes segment nothing_sent

-- the core with this heap for the worker, and nothing sent to the segment any more
abbrev pub with_taken : Core → ℕ → Held PlainWords → ℕ → Core
with_taken core worker heap segment = record core {
  heaps = slice_set core.heaps worker heap;
  remotes = slice_set core.remotes segment nothing_sent;
}

-- the worker holds the segment; its heap takes in the remote list's places in their order, so many
-- of them, and keeps what a heap does
pub record IsTaking (core : Core) (worker segment : ℕ) (heap : Held PlainWords) (count : ℕ)
    : Type 0 where
  pub worker_below : worker < length core.heaps
  pub held : is_held plain_number (heap_of core worker).segments segment ≡ true
  pub taken :
      Takes plain_number plain_records plain_shows plain_steps segment
      (drained (remote_of core segment)) (heap_of core worker) heap count
  pub settled :
      (k : Kept PlainWords) → Contains heap.segments k → IsSettled plain_records k

-- that is a Take, answered by how many came home, and the parts stay tidy
abbrev pub TakingIsTake : Type 0
TakingIsTake =
    (core : Core) (worker segment : ℕ) (heap : Held PlainWords) (count : ℕ)
    → IsSoundPolicy core.policy → IsTidy (parts_of core)
    → IsTaking core worker segment heap count
    → Step (state_of (parts_of core)) worker (event.Take segment) (answer.Taken count)
    (state_of (parts_of (with_taken core worker heap segment)))
    × IsTidy (parts_of (with_taken core worker heap segment))

-- where the worker doesn't hold the segment, a Take is refused
abbrev pub NoTakeIsTake : Type 0
NoTakeIsTake =
    (core : Core) (worker segment : ℕ) → IsTidy (parts_of core) → worker < length core.heaps
    → is_held plain_number (heap_of core worker).segments segment ≡ false
    → Step (state_of (parts_of core)) worker (event.Take segment) answer.NotHeld
    (state_of (parts_of core))
