-- Which word of a place a free may find, by the record of the place.
use Rattle.std.specs.Prelude.{◌≡◌, ℕ, Option, None}
use Rattle.hg_place.specs.declared.Handle.{Handle}
use Rattle.hg_place.specs.declared.Right.TheVariants as right
use Rattle.hg_place.specs.declared.standing.Standing.{Standing}
use Rattle.hg_place.specs.Standings.{Fits}
use Rattle.hg_place.specs.Lives.{IsSlotWord, IsLiveWord}
use Rattle.hg_machine.specs.declared.Rule.{Rule}
use Rattle.hg_machine.specs.Policy.{Policy}
use Rattle.hg_heap.specs.Reading.{use_denial}

abbrev pub free_denial : Policy → ℕ → Handle → ℕ → Option Rule
free_denial policy actor handle word = use_denial policy actor right.Free handle word

-- a free is denied whatever the place's word is
abbrev pub IsNeverFreed : Policy → ℕ → Handle → Standing → Type 0
IsNeverFreed policy actor handle standing =
    (word : ℕ) → IsSlotWord word → Fits standing word
    → free_denial policy actor handle word ≡ None → ⊥

-- it is denied but where the word is this one
pub record IsOnlyFreed (policy : Policy) (actor : ℕ) (handle : Handle) (standing : Standing)
    (expected : ℕ) : Type 0 where
  pub live : IsLiveWord expected
  pub undenied : free_denial policy actor handle expected ≡ None
  pub only :
      (word : ℕ) → IsSlotWord word → Fits standing word
      → free_denial policy actor handle word ≡ None → word ≡ expected
