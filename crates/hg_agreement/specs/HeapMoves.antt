-- A heap with one more, and a heap without one; and a Deliver.
use Rattle.std.specs.Prelude.{◌≡◌, ◌≢◌, ℕ, List, [], ◌∷◌, ◌++◌, Some, None, find, slice_index_or}
use Rattle.std.specs.Prelude.{slice_set}
use Rattle.hg_machine.specs.declared.Event.TheVariants as event
use Rattle.hg_machine.specs.declared.Answer.TheVariants as answer
use Rattle.hg_machine.specs.Steps.{Step}
use Rattle.hg_agreement.specs.Parts.{Plain, Remote, Parts, is_of, state_of}
use Rattle.hg_agreement.specs.Pool.{without}

-- what is pushed has come, and the others are as before
abbrev pub PushedHasCome : Type 0
PushedHasCome =
    (heap : List Plain) (one : Plain) → find (is_of one.holding.number) heap ≡ None
    → (find (is_of one.holding.number) (heap ++ one ∷ []) ≡ Some one)
    × ((segment : ℕ) → segment ≢ one.holding.number
    → find (is_of segment) (heap ++ one ∷ []) ≡ find (is_of segment) heap)

-- what is left out is gone, and the others are as before
abbrev pub LeftOutIsGone : Type 0
LeftOutIsGone =
    (heap : List Plain) (gone : ℕ)
    → (find (is_of gone) (without gone heap) ≡ None)
    × ((segment : ℕ) → segment ≢ gone
    → find (is_of segment) (without gone heap) ≡ find (is_of segment) heap)

-- emptying a hand is a Deliver, whatever the remote lists are now
abbrev pub DeliverIsStep : Type 0
DeliverIsStep =
    (parts : Parts) (worker place : ℕ) (remotes : List Remote)
    → slice_index_or parts.hands worker None ≡ Some place
    → Step (state_of parts) worker event.Deliver answer.Done
    (state_of (record parts { hands = slice_set parts.hands worker None; remotes = remotes }))
