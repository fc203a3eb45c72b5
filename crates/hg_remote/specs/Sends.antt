-- A place goes on a remote list, and one comes off it.
use Rattle.std.specs.Prelude.{◌≡◌, ℕ, List, [], ◌∷◌, ◌⊎◌, slice_set, if◌then◌else◌}
use Rattle.hg_place.specs.Places.{page_of}
use Rattle.hg_remote.specs.Remote.{Remote, slot, thread_at, is_delayed}

-- with another thread-free list of a page
abbrev pub with_thread : Remote → ℕ → List ℕ → Remote
with_thread remote page places =
    record remote { thread_free = slice_set remote.thread_free page places }

-- with a place more: in front of its page's thread-free list where a place of that page stands on
-- the delayed list, otherwise in front of the delayed list
abbrev pub sent : Remote → ℕ → ℕ → Remote
sent remote page index =
    if is_delayed remote page
    then with_thread remote page (slot page index ∷ thread_at remote page)
    else record remote { delayed = slot page index ∷ remote.delayed }

-- the front of a page's thread-free list comes off
pub record TakesThread (old new : Remote) (page index : ℕ) : Type 0 where
  pub taken : thread_at old page ≡ slot page index ∷ thread_at new page
  pub rest : new ≡ with_thread old page (thread_at new page)

-- the front of the delayed list comes off, once its page has nothing on its thread-free list
pub record TakesDelayed (old new : Remote) (page index : ℕ) : Type 0 where
  pub drained : thread_at old page ≡ []
  pub taken : old.delayed ≡ slot page index ∷ new.delayed
  pub rest : new ≡ record old { delayed = new.delayed }

-- a place comes off that is of the same page as the front of the delayed list
pub record Drains (old new : Remote) (page index : ℕ) : Type 0 where
  pub first : ℕ
  pub others : List ℕ
  pub delayed : old.delayed ≡ first ∷ others
  pub page_first : page_of first ≡ page
  pub taken : TakesThread old new page index ⊎ TakesDelayed old new page index
