-- The invariant of a core, over its parts.
use Rattle.std.specs.Prelude.{◌≡◌, ℕ, length, All, replicate}
use Rattle.hg_remote.specs.Remote.{nothing_sent}
use Rattle.hg_machine.specs.SoundPolicy.{IsSoundPolicy}
use Rattle.hg_machine.specs.Soundness.{IsSound}
use Rattle.hg_machine.specs.Lists.{IsPartition}
use Rattle.hg_agreement.specs.LeftPut.{numbers}
use Rattle.hg_agreement.specs.Parts.{Parts, state_of, kept_of, IsSorted}
use Rattle.hg_agreement.specs.Pool.{IsRising, IsPooled}
use Rattle.hg_agreement.specs.Unused.{IsUnused}
use Rattle.hg_parts.specs.Rights.{IsSegmentRight, AreSegmentsRight, AreRemotesRight, remote_from}
use Rattle.hg_parts.specs.Accounted.{IsOutOnce}

-- segments and remote lists are right, each place stands in hands and remote lists once where its
-- block is parted and else not at all, and the fresh segments stand by number
pub record IsTidy (parts : Parts) : Type 0 where
  pub segments : AreSegmentsRight parts
  pub remotes : AreRemotesRight parts
  pub out_once : (place : ℕ) → IsOutOnce parts place
  pub rising : IsRising 0 (numbers parts.fresh)

-- then the state is sound and the lists are a partition
abbrev pub TidyPartsAreSound : Type 0
TidyPartsAreSound =
    (parts : Parts) → IsSoundPolicy parts.policy → IsTidy parts
    → IsSound (state_of parts) × IsPartition (kept_of parts)

-- each segment of a heap stands in that heap alone, and the pool has the others
abbrev pub TidyPartsAreSorted : Type 0
TidyPartsAreSorted = (parts : Parts) → IsTidy parts → IsSorted parts

abbrev pub TidyPartsArePooled : Type 0
TidyPartsArePooled = (parts : Parts) → IsTidy parts → IsPooled parts

-- parts of which nothing has been given out, with nothing on a remote list
abbrev pub StartIsTidy : Type 0
StartIsTidy =
    (parts : Parts) → IsUnused parts → length parts.heaps ≡ parts.policy.workers
    → parts.remotes ≡ replicate (length parts.policy.segments) (remote_from nothing_sent)
    → All (IsSegmentRight parts.policy) parts.fresh
    → IsTidy parts
