-- Frees of all blocks of an owner that a worker holds.
use Rattle.std.specs.Prelude.{◌≡◌, ℕ, Bool, true, false, List, map, count_by}
use Rattle.hg_place.specs.declared.Actor.{Actor}
use Rattle.hg_place.specs.declared.Handle.{Handle}
use Rattle.hg_machine.specs.Lists.{Kept}
use Rattle.hg_machine.specs.State.{places_in}
use Rattle.hg_machine.specs.declared.Event.{Event}
use Rattle.hg_machine.specs.declared.Event.TheVariants as event
use Rattle.hg_machine.specs.declared.Answer.{Answer}
use Rattle.hg_machine.specs.declared.Answer.TheVariants as answer
use Rattle.hg_choice.specs.ChosenSteps.{Chosen}
use Rattle.hg_bulk.specs.OwnBlocks.{own_lines, life_of, life_of_line}

-- a Free of each of these blocks
abbrev pub frees : ℕ → Actor → List Handle → List (ℕ × Event)
frees worker actor handles = map (λ handle. (worker, event.Free actor handle)) handles

-- the block was freed
abbrev pub is_freed : Answer → Bool
is_freed answer.Done = true
is_freed answer.Parted = true
is_freed other = false

-- From old, each of the owner's own blocks at these places that the worker holds is freed for the
-- actor, one after another, in this order: so many are freed, and each other is denied, and stays
pub record FreesAmong (old : Kept) (worker : ℕ) (actor : Actor) (owner : ℕ) (places : List ℕ)
    (count : ℕ) (new : Kept) : Type 0 where
  pub handles : List Handle
  pub named : map life_of handles ≡ map life_of_line (own_lines old.state worker owner places)
  pub answers : List Answer
  pub run : Chosen old (frees worker actor handles) answers new
  pub counted : count ≡ count_by is_freed answers

-- the same of all places that the policy has, rising
abbrev pub FreesAll : Kept → ℕ → Actor → ℕ → ℕ → Kept → Type 0
FreesAll old worker actor owner count new =
    FreesAmong old worker actor owner (places_in old.state) count new
