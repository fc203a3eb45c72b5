-- What a core, a bank and a part of a service in a host's hands own.
use Rattle.std.specs.Prelude.{ℕ, ◌==◌, Bool, true, false, [], Option, None, Some}
use Rattle.hg_machine.specs.Lists.{Kept}
use Rattle.hg_machine.specs.Policy.{Policy}
use Rattle.hg_machine.specs.State.{opening}
use Rattle.hg_bank.specs.State.{BankState}
use base.Fml.{Lft, Share, Fml, ffalse, ftrue, fsep, fex, flft}
use denote.RattleType.{RattleType}
use denote.RawPtr.{Ptr}
use denote.Struct.Lending.{lent_at}
use mir.Syntax.{Ty}
use Rattle.std.specs.Global.{Global}
use Rattle.std.specs.contracts.impls.GlobalAllocator.TheImpl.{ghosts}
use Rattle.std.specs.Box.Ownership.{box_owns}

-- the mark of a core that is open, of a bank, and of a part of a service: so none is taken for another
abbrev pub open_mark : ℕ
open_mark = 3550334381634438984

abbrev pub bank_mark : ℕ
bank_mark = 3552018773301872456

abbrev pub part_mark : ℕ
part_mark = 3554556446373660488

-- the program's one heap: its handle holds nothing
abbrev pub heap : Global
heap = record { memory = record { seal = tt } }

-- the right to free what lies at a pointer
abbrev pub may_free : Ty → Ptr → Fml
may_free = ghosts.dealloc_token heap

abbrev pub when : Bool → Fml → Fml
when true owned = owned
when false owned = ftrue

-- with the open mark: a value on the heap, and the right to free it; with any other: nothing
abbrev pub owns_if_open : (R : RattleType) → ℕ → Ptr → R.Denot → Fml
owns_if_open R mark at value = when (mark == open_mark) (box_owns may_free R at value)

abbrev pub owns_if_bank : (R : RattleType) → ℕ → Ptr → R.Denot → Fml
owns_if_bank R mark at value = when (mark == bank_mark) (box_owns may_free R at value)

-- this value on the heap, and the right to free it; where there is none, nobody owns it
abbrev pub owns_some : (R : RattleType) → Ptr → Option R.Denot → Fml
owns_some R at None = ffalse
owns_some R at (Some value) = box_owns may_free R at value

abbrev pub owns_if_part : (R : RattleType) → ℕ → Ptr → Option R.Denot → Fml
owns_if_part R mark at value = when (mark == part_mark) (owns_some R at value)

-- a value that may be read for a lifetime, and some part of what keeps that from ending: both can be
-- had twice, so this can
abbrev pub lent_for : (R : RattleType) → Ptr → R.Denot → Lft → Fml
lent_for R at value life = fsep (fex Share (λ q. flft life q)) (lent_at R at value life)

-- with the open mark: a value on the heap, lent for reading; with any other: nothing
abbrev pub lent_if_open : (R : RattleType) → ℕ → Ptr → R.Denot → Lft → Fml
lent_if_open R mark at value life = when (mark == open_mark) (lent_for R at value life)

abbrev pub lent_if_bank : (R : RattleType) → ℕ → Ptr → R.Denot → Lft → Fml
lent_if_bank R mark at value life = when (mark == bank_mark) (lent_for R at value life)

-- what stands for the core of one that is closed, and for the bank
abbrev pub no_policy : Policy
no_policy = record {
  workers = 0;
  max_generation = 0;
  tenants = [];
  arenas = [];
  segments = [];
  admitted = [];
  granted = [];
  forbidden = [];
}

abbrev pub no_core : Kept
no_core = record {
  state = opening no_policy;
  lists = record { free = []; local_free = []; thread_free = []; delayed = [] };
  queues = [];
}

abbrev pub no_bank : BankState
no_bank = record { policy = no_policy; room = 0; cores = []; currents = [] }
