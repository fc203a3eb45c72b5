-- Worked lives of a place.
use Rattle.std.specs.Prelude.{[], ◌∷◌}
use Rattle.hg_machine.specs.declared.Answer.TheVariants as answer
use Rattle.hg_machine.specs.declared.Rule.TheVariants as rule
use Rattle.hg_rows.specs.Answers.{Answers}
use Rattle.hg_rows.specs.WorkedPolicy.{start, worked_policy, shortened}
use Rattle.hg_rows.specs.Shorthand.{alice, refills, allocs, frees, reads, writes, collects, block}
use Rattle.hg_rows.specs.Shorthand.{second_life, neighbour, next_page, third_page}

-- freed and given out again: the old handle is stale, and the new block reads zero
abbrev pub StaleAfterReuse : Type 0
StaleAfterReuse =
    Answers (start 1 1)
    (refills 0 0
    ∷ allocs 0 alice 4096
    ∷ writes 0 alice block 511 99
    ∷ frees 0 alice block
    ∷ frees 0 alice block
    ∷ allocs 0 alice 4096
    ∷ frees 0 alice block
    ∷ reads 0 alice second_life 0
    ∷ reads 0 alice second_life 511
    ∷ [])
    (answer.Refilled 0
    ∷ answer.Block block
    ∷ answer.Done
    ∷ answer.Done
    ∷ answer.Denied rule.AlreadyFreed
    ∷ answer.Block second_life
    ∷ answer.Denied (rule.Stale 2)
    ∷ answer.Value 0
    ∷ answer.Value 0
    ∷ [])

-- where each place has one life, a freed one is worn: it is never given out again, also in another
-- class, and its page loses its class all the same
abbrev pub WornPlaceIsNeverGivenOut : Type 0
WornPlaceIsNeverGivenOut =
    Answers (shortened (worked_policy 1) 1025 3)
    (refills 0 0
    ∷ allocs 0 alice 4096
    ∷ frees 0 alice block
    ∷ allocs 0 alice 4096
    ∷ collects 0
    ∷ allocs 0 alice 4096
    ∷ frees 0 alice block
    ∷ frees 0 alice next_page
    ∷ allocs 0 alice 8
    ∷ [])
    (answer.Refilled 0
    ∷ answer.Block block
    ∷ answer.Done
    ∷ answer.Block next_page
    ∷ answer.Pages 1
    ∷ answer.Block third_page
    ∷ answer.Denied rule.AlreadyFreed
    ∷ answer.Done
    ∷ answer.Block neighbour
    ∷ [])
