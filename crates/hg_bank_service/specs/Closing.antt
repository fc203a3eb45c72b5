-- A bank of services becomes a bank.
use Rattle.std.specs.Prelude.{◌≡◌, ℕ, ◌+◌, List, [], ◌∷◌, ◌++◌, length, reverse, All}
use Rattle.hg_close.specs.Closed.{AreLost, IsQuiet}
use Rattle.hg_close.specs.declared.fault.CloseFault.{CloseFault}
use Rattle.hg_machine.specs.Lists.{Kept}
use Rattle.hg_bank.specs.Parts.{bank_from}
use Rattle.hg_bank.specs.State.{BankState}
use Rattle.hg_hosted.specs.Closing.{GoesOn}
use Rattle.hg_hosted.specs.declared.service.HostedService.{HostedService}
use Rattle.hg_bank_service.specs.State.{ServicesState}
use Rattle.hg_bank_service.specs.declared.closing.BankUnclosed.{BankUnclosed}
use Rattle.hg_bank_service.specs.declared.closing.BankUnclosed.TheVariants as unclosed
use Rattle.hg_bank_service.specs.declared.closing.LostCore.{LostCore}

-- these services are gone from the end, and as many quiet cores stand behind those that were closed
pub record HaveClosed (old : ServicesState) (left : List HostedService) (closed : List Kept)
    : Type 0 where
  pub gone : List HostedService
  pub cores : List Kept
  pub taken : old.running ≡ left ++ gone
  pub made : closed ≡ old.closed ++ cores
  pub all : length cores ≡ length gone
  pub quiet : All (IsQuiet old.policy) cores

-- the service of the highest number that ran has closed
pub record ClosesOne (old new : ServicesState) : Type 0 where
  pub policy : new.policy ≡ old.policy
  pub closed : HaveClosed old new.running new.closed
  pub one : length new.running + 1 ≡ length old.running

-- all services have closed, and the bank is made of their cores, by number, each of which is quiet
pub record IsClosedBank (old : ServicesState) (bank : BankState) : Type 0 where
  pub closed : List Kept
  pub have : HaveClosed old [] closed
  pub quiet : All (IsQuiet old.policy) (reverse closed)
  pub is : bank ≡ bank_from old.policy (length closed) (reverse closed)

-- those above a number have closed, and the service of that number goes on, for this reason; those
-- below it are as they were
pub record StopsAt (old new : ServicesState) (core : ℕ) (why : CloseFault) : Type 0 where
  pub policy : new.policy ≡ old.policy
  pub below : List HostedService
  pub was : HostedService
  pub next : HostedService
  pub closed : HaveClosed old (below ++ was ∷ []) new.closed
  pub left : new.running ≡ below ++ next ∷ []
  pub number : core ≡ length below
  pub goes_on : GoesOn was why next

-- all have closed, and are kept
pub record KeepsAllClosed (old new : ServicesState) : Type 0 where
  pub policy : new.policy ≡ old.policy
  pub closed : HaveClosed old [] new.closed
  pub none : new.running ≡ []

-- those above a number have closed, and the service of that number is given up; those below it are as
-- they were
pub record LosesOne (old : ServicesState) (left : LostCore) : Type 0 where
  pub policy : left.policy ≡ old.policy
  pub was : HostedService
  pub closed : HaveClosed old (left.running.items ++ was ∷ []) left.closed.items
  pub number : left.core ≡ length left.running.items
  pub lost : AreLost old.policy left.place left.parts

abbrev pub IsUnclosedBank : ServicesState → BankUnclosed → Type 0
IsUnclosedBank old (unclosed.Running new core why) = StopsAt old new core why
IsUnclosedBank old (unclosed.Memory new) = KeepsAllClosed old new
IsUnclosedBank old (unclosed.Lost lost) = LosesOne old lost
