-- Writes of many words of a block.
use Rattle.std.specs.Prelude.{ℕ, List, map}
use Rattle.std.specs.List.{enumerate_from}
use Rattle.hg_place.specs.declared.Actor.{Actor}
use Rattle.hg_place.specs.declared.Handle.{Handle}
use Rattle.hg_machine.specs.declared.Event.{Event}
use Rattle.hg_machine.specs.declared.Event.TheVariants as event

-- a Write of each of these words into the block, from an index on
abbrev pub writes : ℕ → Actor → Handle → ℕ → List ℕ → List (ℕ × Event)
writes worker actor handle first words =
    map (λ word. (worker, event.Write actor handle word.0 word.1)) (enumerate_from first words)
