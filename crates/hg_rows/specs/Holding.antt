-- Worked holders of segments.
use Rattle.std.specs.Prelude.{[], ◌∷◌}
use Rattle.hg_machine.specs.declared.Answer.TheVariants as answer
use Rattle.hg_rows.specs.Answers.{Answers}
use Rattle.hg_rows.specs.WorkedPolicy.{start}
use Rattle.hg_rows.specs.Shorthand.{alice, refills, abandons, allocs, frees, reads, writes, block}

-- orphans by turn, before fresh segments by number; an arena that there isn't has none
abbrev pub OrphansByTurn : Type 0
OrphansByTurn =
    Answers (start 1 1)
    (refills 0 0
    ∷ refills 1 0
    ∷ refills 0 0
    ∷ abandons 1 1
    ∷ abandons 0 0
    ∷ refills 1 0
    ∷ abandons 1 0
    ∷ refills 0 255
    ∷ [])
    (answer.Refilled 0
    ∷ answer.Refilled 1
    ∷ answer.NoSegment
    ∷ answer.Done
    ∷ answer.Done
    ∷ answer.Refilled 1
    ∷ answer.NotHeld
    ∷ answer.NoSegment
    ∷ [])

-- a segment is given up with a live block, and another worker holds it with that block and its
-- words
abbrev pub AbandonAndAdoptWithLiveBlocks : Type 0
AbandonAndAdoptWithLiveBlocks =
    Answers (start 1 1)
    (refills 0 0
    ∷ allocs 0 alice 24
    ∷ writes 0 alice block 1 5
    ∷ abandons 0 0
    ∷ reads 0 alice block 1
    ∷ refills 1 0
    ∷ reads 1 alice block 1
    ∷ frees 1 alice block
    ∷ [])
    (answer.Refilled 0
    ∷ answer.Block block
    ∷ answer.Done
    ∷ answer.Done
    ∷ answer.Elsewhere
    ∷ answer.Refilled 0
    ∷ answer.Value 5
    ∷ answer.Done
    ∷ [])
