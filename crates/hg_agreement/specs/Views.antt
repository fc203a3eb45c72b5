-- What a worker has, and the word that a step observed.
use Rattle.std.specs.Prelude.{ℕ, Bool, List, Option, Some, None}
use Rattle.hg_place.specs.Slots.{Slot, slot_in, unused_slot}
use Rattle.hg_place.specs.declared.standing.Standing.{Standing}
use Rattle.hg_place.specs.Lives.{IsSlotWord}
use Rattle.hg_place.specs.Standings.{Fits}
use Rattle.hg_machine.specs.Policy.{Policy}

-- The policy, the number of the worker, and what its heap tells: which segments it holds, and of
-- these the class of each page, the standing of each place and the words of its block (none at
-- home). The place in its hand, and the generation of the life in hand
pub record View : Type 0 where
  pub policy : Policy
  pub worker : ℕ
  pub holds : ℕ → Bool
  pub class : ℕ → Option ℕ
  pub standing : ℕ → Standing
  pub block : ℕ → List ℕ
  pub hand : Option ℕ
  pub hand_generation : ℕ

-- an observed word: a step on the word of this place found it
pub record Shown : Type 0 where
  pub place : ℕ
  pub word : ℕ

-- a slot word that fits what is recorded of its place
abbrev pub IsWordOf : Standing → ℕ → Type 0
IsWordOf standing word = IsSlotWord word × Fits standing word

-- what the word says; without a step, what a place says that was never given out
abbrev pub slot_shown : Option Shown → Slot
slot_shown None = unused_slot
slot_shown (Some shown) = slot_in shown.word
