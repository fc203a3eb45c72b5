-- Rows of workers, one for each number, while a bank of services opens.
use Rattle.std.specs.Prelude.{◌≡◌, ℕ, List, ◌∷◌, [], ◌++◌, Some, Vec, length, slice_get}
use Rattle.std.specs.declared.alloc.Global.{Global}
use Rattle.hg_machine.specs.Policy.{Policy}
use Rattle.hg_hosted.specs.declared.service.HostedService.{HostedService}
use Rattle.hg_hosted.specs.declared.worker.HostedWorker.{HostedWorker}
use Rattle.hg_bank_service.specs.Dealing.{IsDealt}
use Rattle.hg_bank_service.specs.New.{AreOpened, IsNewWorker}
use Rattle.hg_bank_service.specs.declared.worker.BankWorker.{BankWorker}

-- so many rows, each of which has of each of these lists the entry of its number
pub record AreRows (lists : List (List HostedWorker)) (many : ℕ)
    (rows : List (Vec HostedWorker Global)) : Type 0 where
  pub all : length rows ≡ many
  pub each :
      (number : ℕ) (row : _) → slice_get rows number ≡ Some row → IsDealt lists number row.items

-- each worker stands behind those of its row
pub record AreMore (workers : List HostedWorker) (old new : List (Vec HostedWorker Global))
    : Type 0 where
  pub all : length new ≡ length old
  pub each :
      (number : ℕ) (worker : HostedWorker) (row more : _) → slice_get workers number ≡ Some worker
      → slice_get old number ≡ Some row → slice_get new number ≡ Some more
      → more.items ≡ row.items ++ worker ∷ []

-- so many services of this policy have opened, and their workers stand in these rows
pub record IsOpening (policy : Policy) (cores : ℕ) (services : List HostedService)
    (rows : List (Vec HostedWorker Global)) : Type 0 where
  pub its : List (List HostedWorker)
  pub many : length services ≡ cores
  pub opened : AreOpened policy services its
  pub dealt : AreRows its policy.workers rows

-- each row has become a bank worker of its number
pub record AreMade (policy : Policy) (rows : List (Vec HostedWorker Global))
    (workers : List BankWorker) : Type 0 where
  pub all : length workers ≡ length rows
  pub new :
      (number : ℕ) (row : _) (worker : BankWorker) → slice_get rows number ≡ Some row
      → slice_get workers number ≡ Some worker
      → IsNewWorker policy number (length row.items) worker
  pub has :
      (number : ℕ) (row : _) (worker : BankWorker) → slice_get rows number ≡ Some row
      → slice_get workers number ≡ Some worker → worker.workers.items ≡ row.items
