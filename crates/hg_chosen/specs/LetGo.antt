-- An Abandon: the lists stay, and the worker's queues lose the pages of the segment.
use Rattle.std.specs.Prelude.{ℕ, ◌<◌, length}
use Rattle.hg_place.specs.declared.plain.PlainWords.{PlainWords}
use Rattle.hg_segment.specs.Kept.{Kept}
use Rattle.hg_machine.specs.declared.Event.TheVariants as event
use Rattle.hg_machine.specs.declared.Answer.TheVariants as answer
use Rattle.hg_parts.specs.Tidy.{IsTidy}
use Rattle.hg_events.specs.Core.{Core, parts_of}
use Rattle.hg_events.specs.LetGo.{let_go, IsHeldBy}
use Rattle.hg_chosen.specs.Chosen.{IsChosenBy}

-- once the segment has left the heap, and is the last orphan, that was an Abandon with its choices
abbrev pub AbandonIsChosen : Type 0
AbandonIsChosen =
    (core : Core) (worker segment : ℕ) (one : Kept PlainWords) → IsTidy (parts_of core)
    → worker < length core.heaps → IsHeldBy core worker segment one
    → IsChosenBy core worker (event.Abandon segment) answer.Done
    (let_go core worker segment one)
