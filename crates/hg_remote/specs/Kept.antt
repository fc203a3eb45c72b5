-- What a remote list keeps: lists by key and flags by page.
use Rattle.std.specs.Prelude.{◌≡◌, ℕ, ◌+◌, ◌<◌, Bool, false, List, [], ◌∷◌, length}
use Rattle.std.specs.Prelude.{slice_index_or}
use Rattle.hg_place.specs.declared.geometry.TheConstants.{SEGMENT_PAGES, SEGMENT_PLACES}
use Rattle.hg_lists.specs.Lists.{Lists, AreApart}
use Rattle.hg_remote.specs.Remote.{Remote, IsRight, is_delayed}

-- list 0 is the delayed one, list page + 1 the thread-free list of the page
abbrev pub remote_by : List (List ℕ) → Remote
remote_by [] = record { delayed = []; thread_free = [] }
remote_by (delayed ∷ thread_free) = record { delayed = delayed; thread_free = thread_free }

-- the flag of a page says whether a place of it stands on the delayed list
pub record IsKept (lists : Lists) (flags : List Bool) : Type 0 where
  pub keys : length lists.by_key ≡ SEGMENT_PAGES + 1
  pub entries : lists.entries ≡ SEGMENT_PLACES
  pub apart : AreApart lists
  pub right : IsRight (remote_by lists.by_key)
  pub flagged : length flags ≡ SEGMENT_PAGES
  pub told :
      (page : ℕ) → page < SEGMENT_PAGES
      → slice_index_or flags page false ≡ is_delayed (remote_by lists.by_key) page
