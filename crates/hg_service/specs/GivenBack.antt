-- The remote lists of a core that a service's parts become.
use Rattle.std.specs.Prelude.{◌≡◌, ◌<◌, ◌==◌, ℕ, List, Option, None, Some, length, find}
use Rattle.std.specs.Prelude.{slice_index_or, reverse}
use Rattle.hg_close.specs.Closed.{IsMadeOf}
use Rattle.hg_machine.specs.Lists.{Kept}
use Rattle.hg_machine.specs.Policy.{Policy}
use Rattle.hg_remote.specs.Remote.{Remote, nothing_sent}
use Rattle.hg_worker.specs.Seats.{number_in, records_in, seat_shows, seat_steps}
use Rattle.hg_service.specs.declared.caller_locked.CallerLocked.{CallerLocked}
use Rattle.hg_service.specs.declared.kept_list.KeptList.{KeptList}

module _ {N : _} where
  -- the list of a segment: the last that was given back of it, else one to which nothing was sent
  abbrev pub list_or : Option (KeptList N) → Remote
  list_or None = nothing_sent
  list_or (Some kept) = kept.list

  abbrev pub list_of : List (KeptList N) → ℕ → Remote
  list_of lists segment = list_or (find (λ kept. kept.segment == segment) (reverse lists))

  -- so many remote lists, each that of the segment of its number
  pub record AreListsOf (lists : List (KeptList N)) (count : ℕ) (remotes : List Remote)
      : Type 0 where
    pub all : length remotes ≡ count
    pub each :
        (segment : ℕ) → segment < count
        → slice_index_or remotes segment nothing_sent ≡ list_of lists segment

module _ {N : _} {own : _} {table : _} where
  -- a core of the segments in the pool of these parts, and of the remote lists among them
  pub record IsMadeOfParts (policy : Policy) (parts : CallerLocked N own table) (core : Kept)
      : Type 0 where
    pub remotes : List Remote
    pub lists : AreListsOf parts.lists.items (length policy.segments) remotes
    pub made : IsMadeOf number_in records_in seat_shows seat_steps parts.pool.pool remotes core
