-- Worked frees by a worker that doesn't hold the segment.
use Rattle.std.specs.Prelude.{◌≡◌, ◌++◌, replicate}
use Rattle.std.specs.Prelude.{[], ◌∷◌}
use Rattle.hg_machine.specs.declared.Answer.TheVariants as answer
use Rattle.hg_machine.specs.declared.Rule.TheVariants as rule
use Rattle.hg_rows.specs.Answers.{Answers}
use Rattle.hg_machine.specs.Lists.{sent_in}
use Rattle.hg_rows.specs.WorkedPolicy.{start}
use Rattle.hg_rows.specs.Shorthand.{alice, bob, refills, abandons, allocs, frees, reads, takes}
use Rattle.hg_rows.specs.Shorthand.{delivers, collects, block, neighbour, next_page}

-- what is parted is freed for all at once, and comes home once it was delivered and taken
abbrev pub DeliveredThenTaken : Type 0
DeliveredThenTaken =
    Answers (start 1 1)
    (refills 0 0
    ∷ allocs 0 alice 24
    ∷ frees 1 bob block
    ∷ reads 0 alice block 0
    ∷ takes 0 0
    ∷ delivers 1
    ∷ takes 0 0
    ∷ delivers 1
    ∷ [])
    (answer.Refilled 0
    ∷ answer.Block block
    ∷ answer.Parted
    ∷ answer.Denied rule.AlreadyFreed
    ∷ answer.Taken 0
    ∷ answer.Done
    ∷ answer.Taken 1
    ∷ answer.NothingInHand
    ∷ [])

-- a hand has one block; a verdict goes before a full hand
abbrev pub FullHandIsBusy : Type 0
FullHandIsBusy =
    Answers (start 2 1)
    (refills 0 0
    ∷ allocs 0 alice 24
    ∷ allocs 0 alice 24
    ∷ frees 1 alice block
    ∷ frees 1 alice neighbour
    ∷ frees 1 alice block
    ∷ reads 0 alice neighbour 0
    ∷ delivers 1
    ∷ frees 1 alice neighbour
    ∷ [])
    (answer.Refilled 0
    ∷ answer.Block block
    ∷ answer.Block neighbour
    ∷ answer.Parted
    ∷ answer.Busy
    ∷ answer.Denied rule.AlreadyFreed
    ∷ answer.Value 0
    ∷ answer.Done
    ∷ answer.Parted
    ∷ [])

-- a parted block counts in the charge until it is taken
abbrev pub PartedBlockCountsInCharge : Type 0
PartedBlockCountsInCharge =
    Answers (start 513 2)
    (refills 0 0
    ∷ allocs 0 bob 64
    ∷ frees 1 bob block
    ∷ allocs 0 bob 8
    ∷ delivers 1
    ∷ allocs 0 bob 8
    ∷ takes 0 0
    ∷ allocs 0 bob 8
    ∷ [])
    (answer.Refilled 0
    ∷ answer.Block block
    ∷ answer.Parted
    ∷ answer.Denied rule.OverLimit
    ∷ answer.Done
    ∷ answer.Denied rule.OverLimit
    ∷ answer.Taken 1
    ∷ answer.Block next_page
    ∷ [])

-- a full hand doesn't keep a holder from freeing; what is in a hand isn't taken, also by its own
-- worker; its page isn't idle; a worker that holds nothing collects nothing
abbrev pub HandIsNotTaken : Type 0
HandIsNotTaken =
    Answers (start 2 1)
    (refills 0 0
    ∷ allocs 0 alice 24
    ∷ allocs 0 alice 24
    ∷ frees 1 alice block
    ∷ abandons 0 0
    ∷ refills 1 0
    ∷ frees 1 alice neighbour
    ∷ takes 1 0
    ∷ reads 1 alice block 0
    ∷ collects 1
    ∷ delivers 1
    ∷ takes 1 0
    ∷ collects 0
    ∷ collects 1
    ∷ [])
    (answer.Refilled 0
    ∷ answer.Block block
    ∷ answer.Block neighbour
    ∷ answer.Parted
    ∷ answer.Done
    ∷ answer.Refilled 0
    ∷ answer.Done
    ∷ answer.Taken 0
    ∷ answer.Denied rule.AlreadyFreed
    ∷ answer.Pages 0
    ∷ answer.Done
    ∷ answer.Taken 1
    ∷ answer.Pages 0
    ∷ answer.Pages 1
    ∷ [])

-- a segment's sent places: the delayed ones, then the thread-free ones of all its sixteen pages
abbrev pub DelayedBeforeThreadFree : Type 0
DelayedBeforeThreadFree =
    sent_in
    (record {
      free = [];
      local_free = [];
      thread_free = (2 ∷ 1 ∷ []) ∷ replicate 14 [] ++ (7681 ∷ []) ∷ [];
      delayed = (512 ∷ 0 ∷ 7680 ∷ []) ∷ [];
    })
    0
    ≡ 512 ∷ 0 ∷ 7680 ∷ 2 ∷ 1 ∷ 7681 ∷ []
