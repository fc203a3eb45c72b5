-- Who may read a block.
use Rattle.std.specs.Prelude.{◌≡◌, ℕ, true, Option, is_none, is_some}
use Rattle.hg_place.specs.declared.Right.TheVariants as right
use Rattle.hg_machine.specs.declared.Rule.{Rule}
use Rattle.hg_machine.specs.Policy.{Policy}
use Rattle.hg_machine.specs.Denial.{denial_on}
use Rattle.hg_choice.specs.SameBut.{may_read, is_unreadable}

-- the first rule that denies the actor a read of a live block of the owner in the segment, by its
-- handle
abbrev pub read_denial : Policy → ℕ → ℕ → ℕ → ℕ → Option Rule
read_denial policy actor segment owner generation =
    denial_on policy actor right.Read segment generation
    (record { generation = generation; owner = owner; live = true })

-- the actor may read such blocks exactly where no rule does, and may not where one does
abbrev pub MayReadIsVerdict : Type 0
MayReadIsVerdict =
    (policy : Policy) (actor segment owner generation : ℕ)
    → (may_read policy actor segment owner
    ≡ is_none (read_denial policy actor segment owner generation))
    × (is_unreadable policy actor segment owner
    ≡ is_some (read_denial policy actor segment owner generation))
