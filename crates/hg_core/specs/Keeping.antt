-- What holds of the stores of a core, and what a core is seen as.
use Rattle.hg_machine.specs.SoundPolicy.{IsSoundPolicy}
use Rattle.hg_machine.specs.State.{State}
use Rattle.hg_agreement.specs.Parts.{state_of}
use Rattle.hg_parts.specs.Tidy.{IsTidy}
use Rattle.hg_events.specs.Core.{Core, parts_of}

-- the state of the machine for which they stand
abbrev pub state_in : Core → State
state_in core = state_of (parts_of core)

-- the policy is sound, and the parts for which they stand are tidy
pub record IsKept (core : Core) : Type 0 where
  pub policy : IsSoundPolicy core.policy
  pub tidy : IsTidy (parts_of core)
