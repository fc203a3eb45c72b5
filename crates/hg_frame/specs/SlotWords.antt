-- A slot word goes on showing its place, but where the block there is given out or freed.
use Rattle.std.specs.Prelude.{◌≡◌, ℕ, ◌==◌, Bool, false}
use Rattle.hg_place.specs.Places.{number_of}
use Rattle.hg_machine.specs.declared.Event.{Event}
use Rattle.hg_machine.specs.declared.Event.TheVariants as event
use Rattle.hg_machine.specs.declared.Answer.{Answer}
use Rattle.hg_machine.specs.declared.Answer.TheVariants as answer
use Rattle.hg_machine.specs.State.{State, record_at}
use Rattle.hg_machine.specs.Shown.{IsShownBy}
use Rattle.hg_machine.specs.Steps.{Step}

-- the event was to free the block at the place, or gave the place out
abbrev pub changes_word : Event → Answer → ℕ → Bool
changes_word (event.Free actor handle) a place = number_of handle.place == place
changes_word (event.Alloc actor arena bytes) (answer.Block handle) place =
    number_of handle.place == place
changes_word event a place = false

-- at each other place a word that shows the record shows the one after the step
abbrev pub WordsStay : Type 0
WordsStay =
    (old : State) (worker : ℕ) (event : Event) (answer : Answer) (new : State) (place word : ℕ)
    → changes_word event answer place ≡ false → Step old worker event answer new
    → IsShownBy (record_at old place) word → IsShownBy (record_at new place) word
