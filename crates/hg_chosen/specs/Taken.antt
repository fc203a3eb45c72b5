-- A Take, as a step with its choices.
use Rattle.std.specs.Prelude.{ℕ}
use Rattle.hg_place.specs.declared.plain.PlainWords.{PlainWords}
use Rattle.hg_heap.specs.Held.{Held}
use Rattle.hg_machine.specs.declared.Answer.TheVariants as answer
use Rattle.hg_machine.specs.declared.Event.TheVariants as event
use Rattle.hg_machine.specs.SoundPolicy.{IsSoundPolicy}
use Rattle.hg_parts.specs.Tidy.{IsTidy}
use Rattle.hg_events.specs.Core.{Core, parts_of}
use Rattle.hg_events.specs.Take.{with_taken, IsTaking}
use Rattle.hg_chosen.specs.Chosen.{IsChosenBy}

-- what `Heap::take` leaves is one, in the order in which the remote list is drained
abbrev pub TakeIsChosen : Type 0
TakeIsChosen =
    (core : Core) (worker segment : ℕ) (heap : Held PlainWords) (count : ℕ)
    → IsSoundPolicy core.policy → IsTidy (parts_of core)
    → IsTaking core worker segment heap count
    → IsChosenBy core worker (event.Take segment) (answer.Taken count)
    (with_taken core worker heap segment)
