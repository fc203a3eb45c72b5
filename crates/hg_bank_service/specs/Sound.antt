-- What holds of every bank of services.
use Rattle.std.specs.Prelude.{◌≡◌, ◌+◌, ◌≤◌, length, All}
use Rattle.hg_close.specs.Closed.{IsQuiet}
use Rattle.hg_bank.specs.declared.bank.TheConstants.{MAX_CORES}
use Rattle.hg_bank_service.specs.State.{ServicesState}

-- there is a core, and no more than there may be; who runs serves by the policy, and what is closed is
-- quiet
pub record AreSoundServices (s : ServicesState) : Type 0 where
  pub some : 1 ≤ length s.closed + length s.running
  pub most : length s.closed + length s.running ≤ MAX_CORES
  pub serve : All (λ service. service.policy ≡ s.policy) s.running
  pub quiet : All (IsQuiet s.policy) s.closed
