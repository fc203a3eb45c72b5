-- What a part of a bank of services in a host's hands owns.
use Rattle.std.specs.Prelude.{ℕ, ◌==◌, ◌≢◌, Option, None, Some}
use base.Fml.{Fml}
use denote.RattleType.{RattleType}
use denote.RawPtr.{Ptr}
use Rattle.hg_ffi.specs.Owning.{bank_mark, open_mark, owns_some, part_mark, when}

-- the mark of a part that is open: none that a core, a bank or a part of a service has, so that none is
-- taken for another
abbrev pub bank_part_mark : ℕ
bank_part_mark = 3555119473401612104

-- with the open mark: a value on the heap, and the right to free it; with any other: nothing
abbrev pub owns_if_bank_part : (R : RattleType) → ℕ → Ptr → Option R.Denot → Fml
owns_if_bank_part R mark at value = when (mark == bank_part_mark) (owns_some R at value)

-- no two of the four marks are one
pub record MarksAreApart : Type 0 where
  pub core_bank : open_mark ≢ bank_mark
  pub core_part : open_mark ≢ part_mark
  pub core_bank_part : open_mark ≢ bank_part_mark
  pub bank_part : bank_mark ≢ part_mark
  pub bank_bank_part : bank_mark ≢ bank_part_mark
  pub part_bank_part : part_mark ≢ bank_part_mark
