-- Worked allocations.
use Rattle.std.specs.Prelude.{[], ◌∷◌}
use Rattle.hg_machine.specs.declared.Answer.TheVariants as answer
use Rattle.hg_machine.specs.declared.Rule.TheVariants as rule
use Rattle.hg_rows.specs.Answers.{Answers}
use Rattle.hg_rows.specs.WorkedPolicy.{start, vault_start}
use Rattle.hg_rows.specs.Shorthand.{alice, bob, refills, allocs, allocs_in, reads, writes, block}
use Rattle.hg_rows.specs.Shorthand.{next_page}

-- a worker that holds nothing has no room; with a segment it has
abbrev pub RefillThenAlloc : Type 0
RefillThenAlloc =
    Answers (start 1 1)
    (allocs 0 alice 24 ∷ refills 0 0 ∷ allocs 0 alice 24 ∷ [])
    (answer.NoRoom ∷ answer.Refilled 0 ∷ answer.Block block ∷ [])

-- what fits exactly, and no byte more; what is too large is too large, also at the limit
abbrev pub ExactFitThenOverLimit : Type 0
ExactFitThenOverLimit =
    Answers (start 1 1)
    (refills 0 0 ∷ allocs 0 bob 64 ∷ allocs 0 bob 1 ∷ allocs 0 bob 65537 ∷ [])
    (answer.Refilled 0 ∷ answer.Block block ∷ answer.Denied rule.OverLimit ∷ answer.TooLarge ∷ [])

-- the limit is told before there is a question of room, also where the worker holds nothing
abbrev pub LimitBeforeRoom : Type 0
LimitBeforeRoom =
    Answers (start 1 1)
    (allocs 0 bob 65 ∷ allocs 0 bob 64 ∷ [])
    (answer.Denied rule.OverLimit ∷ answer.NoRoom ∷ [])

-- 65 bytes take 80, which are above 64; 8 bytes and two blocks of 4096 are above 8192
abbrev pub ChargeByClassBytes : Type 0
ChargeByClassBytes =
    Answers (start 513 2)
    (refills 0 0
    ∷ allocs 0 bob 65
    ∷ allocs 0 alice 1
    ∷ allocs 0 alice 3585
    ∷ allocs 0 alice 3585
    ∷ [])
    (answer.Refilled 0
    ∷ answer.Denied rule.OverLimit
    ∷ answer.Block block
    ∷ answer.Block next_page
    ∷ answer.Denied rule.OverLimit
    ∷ [])

-- an arena that doesn't admit the actor goes before size, limit and grant; so does one that isn't
-- there
abbrev pub ArenaBeforeSizeLimitAndGrant : Type 0
ArenaBeforeSizeLimitAndGrant =
    Answers vault_start
    (refills 0 1
    ∷ allocs_in 0 1 bob 8
    ∷ allocs_in 0 1 bob 4096
    ∷ allocs_in 0 1 bob 5000
    ∷ allocs_in 0 1 alice 8
    ∷ reads 0 bob block 0
    ∷ writes 0 bob block 0 5
    ∷ allocs_in 0 255 alice 8
    ∷ [])
    (answer.Refilled 0
    ∷ answer.Denied rule.ForeignArena
    ∷ answer.Denied rule.ForeignArena
    ∷ answer.Denied rule.ForeignArena
    ∷ answer.Block block
    ∷ answer.Denied rule.ForeignArena
    ∷ answer.Denied rule.ForeignArena
    ∷ answer.Denied rule.ForeignArena
    ∷ [])
