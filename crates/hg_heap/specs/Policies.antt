-- Segments that are as a policy has them.
use Rattle.std.specs.Prelude.{◌≡◌, ℕ, List, Contains, Some}
use Rattle.hg_machine.specs.Policy.{Policy, arena_of}
use Rattle.hg_segment.specs.Kept.{Kept}

module _ {S : Type 0} (number : S → ℕ) where
  -- the policy gives a segment its arena and its greatest generation
  abbrev pub IsOf : Policy → Kept S → Type 0
  IsOf policy k =
      (arena_of policy (number k.slots) ≡ Some k.arena)
      × (k.greatest ≡ policy.max_generation)

  -- the policy gives each of them its arena and its greatest generation
  pub record AreOf (policy : Policy) (segments : List (Kept S)) : Type 0 where
    pub arena :
        (k : Kept S) → Contains segments k → arena_of policy (number k.slots) ≡ Some k.arena
    pub greatest : (k : Kept S) → Contains segments k → k.greatest ≡ policy.max_generation
