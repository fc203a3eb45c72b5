-- What a core keeps, as its callers see it.
use Rattle.std.proofs.Common.{◌≡◌, subst}
use Rattle.hg_machine.specs.Soundness.{IsSound}
use Rattle.hg_machine.specs.Lists.{Kept, IsPartition}
use Rattle.hg_agreement.specs.Parts.{kept_of}
use Rattle.hg_parts.proofs.Sound.{tidy_sound}
use Rattle.hg_events.specs.Core.{Core, parts_of}
use Rattle.hg_core.specs.Keeping.{IsKept}

-- sound, with its lists
pub kept_sound : (core : Core) → IsKept core
    → IsSound (kept_of (parts_of core)).state × IsPartition (kept_of (parts_of core))
kept_sound core kept = tidy_sound (parts_of core) kept.policy kept.tidy

pub kept_is : (core : Core) (k : Kept) → kept_of (parts_of core) ≡ k → IsKept core
    → IsSound k.state × IsPartition k
kept_is core k e kept = subst (λ z. IsSound z.state × IsPartition z) e (kept_sound core kept)
