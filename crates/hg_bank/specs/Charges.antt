-- What a step leaves of the charges.
use Rattle.std.specs.Prelude.{◌≡◌, ℕ}
use Rattle.hg_machine.specs.State.{State}
use Rattle.hg_machine.specs.Charge.{charge}

-- each charge is as it was
abbrev pub AreSameCharges : State → State → Type 0
AreSameCharges s new = (worker tenant : ℕ) → charge new worker tenant ≡ charge s worker tenant
