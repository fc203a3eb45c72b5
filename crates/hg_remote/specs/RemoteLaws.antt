-- Laws of remote lists.
use Rattle.std.specs.Prelude.{◌≡◌, ◌↔◌, ℕ, ◌<◌, true, List, [], ◌∷◌, length, Contains}
use Rattle.hg_place.specs.declared.geometry.TheConstants.{SEGMENT_PAGES, PAGE_PLACES}
use Rattle.hg_place.specs.Places.{page_of}
use Rattle.hg_lists.specs.Repeats.{HasNoRepeats}
use Rattle.hg_remote.specs.Remote.{Remote, IsRight, contents, nothing_sent, slot, is_delayed}
use Rattle.hg_remote.specs.Sends.{sent, Drains}
use Rattle.hg_remote.specs.Order.{drained}

-- of all lists and places there is one that a drain leaves and takes
abbrev pub DrainIsDetermined : Type 0
DrainIsDetermined =
    (old one other : Remote) (page index page_too index_too : ℕ) → Drains old one page index
    → Drains old other page_too index_too
    → (page ≡ page_too) × (index ≡ index_too) × (one ≡ other)

-- no place of another page stands in front of the page's on the delayed list
abbrev pub IsForemost : Remote → ℕ → Type 0
IsForemost remote page =
    (first : ℕ) (others : List ℕ) → is_delayed remote page ≡ true
    → remote.delayed ≡ first ∷ others → page_of first ≡ page

-- what was sent last comes off first, and leaves what was there, but where its page has to wait for
-- another
abbrev pub LastSentIsDrained : Type 0
LastSentIsDrained =
    (remote : Remote) (page index : ℕ) → IsRight remote → page < SEGMENT_PAGES
    → index < PAGE_PLACES → ¬ Contains (contents remote) (slot page index)
    → IsForemost remote page → Drains (sent remote page index) remote page index

-- a drain gives the head of the order in which places come off, and leaves its tail
abbrev pub DrainGivesHead : Type 0
DrainGivesHead =
    (old new : Remote) (page index : ℕ) → IsRight old → Drains old new page index
    → drained old ≡ slot page index ∷ drained new

-- that order has each place that the list has, once, and no other
pub record IsOrderOf (remote : Remote) : Type 0 where
  pub same : (place : ℕ) → Contains (drained remote) place ↔ Contains (contents remote) place
  pub once : HasNoRepeats (drained remote)
  pub as_many : length (drained remote) ≡ length (contents remote)

abbrev pub OrderHasAll : Type 0
OrderHasAll = (remote : Remote) → IsRight remote → IsOrderOf remote

-- a list that has no place is one to which nothing was sent
abbrev pub EmptyIsNothingSent : Type 0
EmptyIsNothingSent =
    (remote : Remote) → IsRight remote → contents remote ≡ [] → remote ≡ nothing_sent
