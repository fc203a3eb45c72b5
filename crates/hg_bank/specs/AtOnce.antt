-- Many words of a block, or all blocks of an owner in a core, in one call of a bank.
use Rattle.std.specs.Prelude.{◌≡◌, ℕ, ◌<◌, ◌≤◌, [], ◌∷◌, length, take, slice_get, Some}
use Rattle.hg_machine.specs.Lists.{Kept}
use Rattle.hg_machine.specs.Policy.{Policy}
use Rattle.hg_bulk.specs.declared.progress.Progress.{Progress}
use Rattle.hg_bulk.specs.Words.{refusals}
use Rattle.hg_bank.specs.Requests.{missing}
use Rattle.hg_bank.specs.State.{BankState, with_core}

-- the core does this, and each other core stays as it was
pub record IsDoneIn (old : BankState) (core : ℕ) (does : Kept → Kept → Type 0) (new : BankState)
    : Type 0 where
  pub was : Kept
  pub next : Kept
  pub there : slice_get old.cores core ≡ Some was
  pub done : does was next
  pub after : new ≡ with_core old core next

-- a core that is there does this; where there is none, that is said, and nothing changes
pub record DoesIn (old : BankState) (core : ℕ) (does : Kept → Kept → Type 0) (missed : Type 0)
    (new : BankState) : Type 0 where
  pub there : core < length old.cores → IsDoneIn old core does new
  pub missing : length old.cores ≤ core → missed × (new ≡ old)

-- none of so many is done, and the first, if there is one, is answered as a block of a core that
-- isn't there
abbrev pub IsUnreached : Policy → ℕ → ℕ → Progress → Type 0
IsUnreached policy actor count made =
    (made.done ≡ 0) × (refusals made.refused ≡ take count (missing policy actor ∷ []))
