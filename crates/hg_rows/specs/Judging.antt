-- Worked verdicts on blocks.
use Rattle.std.specs.Prelude.{[], ◌∷◌}
use Rattle.hg_machine.specs.declared.Answer.TheVariants as answer
use Rattle.hg_machine.specs.declared.Rule.TheVariants as rule
use Rattle.hg_rows.specs.Answers.{Answers}
use Rattle.hg_machine.specs.declared.Row.{Row}
use Rattle.hg_rows.specs.WorkedPolicy.{start, vault_start}
use Rattle.hg_rows.specs.Shorthand.{allocs_in, frees}
use Rattle.hg_rows.specs.Shorthand.{alice, bob, stranger, refills, allocs, reads, writes, looks}
use Rattle.hg_rows.specs.Shorthand.{takes, abandons, block, ninth_life, neighbour, next_page}
use Rattle.hg_rows.specs.Shorthand.{nowhere}

-- a stranger before a stale handle, a stale handle before what isn't granted
abbrev pub StrangerThenStaleThenGrant : Type 0
StrangerThenStaleThenGrant =
    Answers (start 1 1)
    (refills 0 0
    ∷ allocs 0 alice 8
    ∷ reads 0 stranger ninth_life 0
    ∷ writes 0 bob ninth_life 0 5
    ∷ allocs 0 stranger 8
    ∷ [])
    (answer.Refilled 0
    ∷ answer.Block block
    ∷ answer.Denied rule.Stranger
    ∷ answer.Denied (rule.Stale 1)
    ∷ answer.Denied rule.Stranger
    ∷ [])

-- what isn't granted before where it stands, and that before the block's length
abbrev pub GrantThenHolderThenLength : Type 0
GrantThenHolderThenLength =
    Answers (start 1 1)
    (refills 0 0
    ∷ allocs 0 alice 24
    ∷ writes 0 bob block 0 5
    ∷ writes 1 bob block 0 5
    ∷ reads 1 alice block 3
    ∷ reads 0 alice block 3
    ∷ reads 0 bob block 2
    ∷ [])
    (answer.Refilled 0
    ∷ answer.Block block
    ∷ answer.Denied rule.NotGranted
    ∷ answer.Denied rule.NotGranted
    ∷ answer.Elsewhere
    ∷ answer.OutOfBlock
    ∷ answer.Value 0
    ∷ [])

-- a stale handle and a freed block before an arena that doesn't admit the actor
abbrev pub StaleThenFreedThenArena : Type 0
StaleThenFreedThenArena =
    Answers vault_start
    (refills 0 1
    ∷ allocs_in 0 1 alice 8
    ∷ reads 0 bob ninth_life 0
    ∷ reads 0 bob block 0
    ∷ frees 0 alice block
    ∷ reads 0 bob block 0
    ∷ [])
    (answer.Refilled 0
    ∷ answer.Block block
    ∷ answer.Denied (rule.Stale 1)
    ∷ answer.Denied rule.ForeignArena
    ∷ answer.Done
    ∷ answer.Denied rule.AlreadyFreed
    ∷ [])

-- what a segment that the policy lacks is answered
abbrev pub NoSuchSegment : Type 0
NoSuchSegment =
    Answers (start 1 1)
    (reads 0 alice nowhere 0 ∷ looks 0 alice nowhere ∷ takes 0 9 ∷ abandons 0 9 ∷ [])
    (answer.Denied (rule.Stale 0)
    ∷ answer.Denied (rule.Stale 0)
    ∷ answer.NotHeld
    ∷ answer.NotHeld
    ∷ [])

abbrev pub row_of_alice : Row
row_of_alice = record { handle = block; owner = alice; bytes = 24 }

-- a look at one's own block, without the right, at a place never given out, elsewhere, and by a
-- stranger
abbrev pub LooksShowWhatMayBeListed : Type 0
LooksShowWhatMayBeListed =
    Answers (start 513 2)
    (refills 0 0
    ∷ allocs 0 alice 24
    ∷ allocs 0 bob 16
    ∷ looks 0 alice block
    ∷ looks 0 bob block
    ∷ looks 0 alice neighbour
    ∷ looks 1 alice block
    ∷ looks 0 stranger block
    ∷ [])
    (answer.Refilled 0
    ∷ answer.Block block
    ∷ answer.Block next_page
    ∷ answer.Listed row_of_alice
    ∷ answer.Denied rule.NotGranted
    ∷ answer.Denied (rule.Stale 0)
    ∷ answer.Elsewhere
    ∷ answer.Denied rule.Stranger
    ∷ [])
