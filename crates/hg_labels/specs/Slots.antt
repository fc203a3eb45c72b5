-- Where a name's number is kept.
use Rattle.std.specs.Prelude.{◌≢◌, ℕ, ◌+◌, List}
use Rattle.std.specs.List.{All}
use Rattle.hg_labels.specs.Hash.{tag_of}
use Rattle.hg_labels.specs.declared.slot.Slot.{Slot}

-- the slot of the name with this hash and number
abbrev pub slot_of : ℕ → ℕ → Slot
slot_of hash number = record { tag = tag_of hash; number = number + 1 }

-- no slot is empty
abbrev pub IsFull : List Slot → Type 0
IsFull bucket = All (λ slot. slot.number ≢ 0) bucket
