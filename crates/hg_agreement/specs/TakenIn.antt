-- What a Take is in the state of a core.
use Rattle.std.specs.Prelude.{◌≡◌, ℕ, ◌==◌, ◌<◌, Bool, List, ◌++◌, length, Some, map, count_by}
use Rattle.std.specs.Prelude.{if◌then◌else◌}
use Rattle.std.specs.List.{concat, list_any, range_with_len}
use Rattle.hg_place.specs.declared.geometry.TheConstants.{SEGMENT_PLACES, SEGMENT_PAGES}
use Rattle.hg_machine.specs.Life.{Record, home}
use Rattle.hg_machine.specs.State.{places_in}
use Rattle.hg_machine.specs.Sweeps.{is_sent_to, settled}
use Rattle.hg_machine.specs.Lists.{IsPartition}
use Rattle.hg_agreement.specs.Holdings.{class_of}
use Rattle.hg_agreement.specs.Parts.{Plain, Remote, Parts, remote_at, thread_at, record_by}
use Rattle.hg_agreement.specs.Parts.{state_of, kept_of, IsSorted}
use Rattle.hg_agreement.specs.PlainPut.{with_plain, IsSwap}

-- all places of a remote list: the delayed ones, and those of each page
abbrev pub remote_places : Remote → List ℕ
remote_places remote =
    remote.delayed
    ++ concat (map (λ page. thread_at remote page) (range_with_len 0 SEGMENT_PAGES))

abbrev pub is_listed : Remote → ℕ → Bool
is_listed remote at = list_any (λ n. n == at) (remote_places remote)

-- the record of a place, home where it was on the list
abbrev pub taken_in : Bool → Record → Record
taken_in listed r = if listed then record { generation = r.generation; life = home } else r

-- the segment that stands there, and the one that comes in its place, in which all places on the
-- remote list are home
pub record IsTakenIn (parts : Parts) (worker found : ℕ) (one now : Plain) : Type 0 where
  pub swap : IsSwap parts worker found one now
  pub records :
      (at : ℕ) → at < SEGMENT_PLACES
      → record_by (Some now) at
      ≡ taken_in (is_listed (remote_at parts one.holding.number) at) (record_by (Some one) at)
  pub classes :
      (page : ℕ) → page < SEGMENT_PAGES → class_of now.holding page ≡ class_of one.holding page

-- then the sent places are settled, whatever the remote lists are now
abbrev pub TakenInIsSettled : Type 0
TakenInIsSettled =
    (parts : Parts) (worker found : ℕ) (one now : Plain) (remotes : List Remote)
    → IsSorted parts → IsPartition (kept_of parts) → IsTakenIn parts worker found one now
    → state_of (record (with_plain parts worker found now) { remotes = remotes })
    ≡ record (state_of parts) {
      records = map (settled (state_of parts) one.holding.number) (places_in (state_of parts));
    }

-- and there are as many of them as places on the list
abbrev pub SentAreListed : Type 0
SentAreListed =
    (parts : Parts) (segment : ℕ) → segment < length parts.policy.segments
    → IsPartition (kept_of parts)
    → count_by (is_sent_to (state_of parts) segment) (places_in (state_of parts))
    ≡ length (remote_places (remote_at parts segment))
