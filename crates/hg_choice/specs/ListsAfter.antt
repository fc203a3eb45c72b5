-- What a worker's event and its answer leave of the lists.
use Rattle.std.specs.Prelude.{ℕ, ◌*◌, ◌==◌, ◌&&◌, Bool, List, [], ◌∷◌, Option, Some, None, map}
use Rattle.std.specs.Prelude.{filter, is_some, slice_set, if◌then◌else◌}
use Rattle.std.specs.List.{range_with_len}
use Rattle.hg_place.specs.declared.geometry.TheConstants.{PAGE_PLACES}
use Rattle.hg_place.specs.Places.{number_of, page_number, page_of, index_of, segment_of}
use Rattle.hg_place.specs.Places.{segment_of_page}
use Rattle.hg_page.specs.PageLists.{PageLists, fresh}
use Rattle.hg_segment.specs.Kept.{refilled, returned}
use Rattle.hg_remote.specs.Remote.{Remote}
use Rattle.hg_remote.specs.Sends.{sent}
use Rattle.hg_remote.specs.Order.{drained}
use Rattle.hg_machine.specs.declared.Event.{Event}
use Rattle.hg_machine.specs.declared.Event.TheVariants as event
use Rattle.hg_machine.specs.declared.Answer.{Answer}
use Rattle.hg_machine.specs.declared.Answer.TheVariants as answer
use Rattle.hg_machine.specs.State.{State, record_at, class_at, hand_of, pages_in}
use Rattle.hg_machine.specs.Holders.{holds}
use Rattle.hg_machine.specs.Request.{size_of}
use Rattle.hg_machine.specs.Room.{is_usable}
use Rattle.hg_machine.specs.Sweeps.{is_idle}
use Rattle.hg_machine.specs.Lists.{Lists, Kept, list_at}
use Rattle.hg_choice.specs.PageLists.{lists_on, with_page, popped}

-- the lists of a page, by its class, when a place of it is given out to a block of the size: those
-- that it has; of one that gets its class only now all places that may have such a block, rising
abbrev pub lists_for : State → Lists → ℕ → ℕ → Option ℕ → PageLists
lists_for s l size page (Some class) = lists_on l page
lists_for s l size page None =
    fresh (filter (is_usable s size) (range_with_len (page * PAGE_PLACES) PAGE_PLACES))

-- a place of the page was given out: the head of `free`, which `local_free` had refilled where it
-- was empty, is on no list
abbrev pub given_from : State → Lists → ℕ → ℕ → Lists
given_from s l size page =
    with_page l page (popped (refilled (lists_for s l size page (class_at s page))))

-- the place came home: it is in front of its page's `local_free`, or on no list where it is worn
abbrev pub came_home : State → Lists → ℕ → Lists
came_home s l place =
    with_page l (page_of place)
    (returned ((record_at s place).generation == s.policy.max_generation)
    (lists_on l (page_of place)) place)

-- these places came home, one after the other
abbrev pub all_home : State → Lists → List ℕ → Lists
all_home s l [] = l
all_home s l (place ∷ places) = all_home s (came_home s l place) places

-- the remote list of a segment, with the thread-free lists of all pages
abbrev pub remote_of : Lists → ℕ → Remote
remote_of l segment = record { delayed = list_at l.delayed segment; thread_free = l.thread_free }

-- a place that was in a hand, if one was, is on the remote list of its segment
abbrev pub delivered : Lists → Option ℕ → Lists
delivered l None = l
delivered l (Some place) =
    let remote = sent (remote_of l (segment_of place)) (page_of place) (index_of place) in
    record l {
      thread_free = remote.thread_free;
      delayed = slice_set l.delayed (segment_of place) remote.delayed;
    }

-- nothing is sent to the segment any more
abbrev pub nothing_sent_to : State → Lists → ℕ → Lists
nothing_sent_to s l segment = record l {
  thread_free = map
      (λ page. if segment_of_page page == segment then [] else list_at l.thread_free page)
      (pages_in s);
  delayed = slice_set l.delayed segment [];
}

-- all that was sent to the segment came home, in the order in which its remote list is drained
abbrev pub taken : State → Lists → ℕ → Lists
taken s l segment =
    nothing_sent_to s (all_home s l (drained (remote_of l segment))) segment

-- the page has a class and no block, live or parted, and the worker holds it
abbrev pub is_collected : State → ℕ → ℕ → Bool
is_collected s worker page =
    holds s worker (segment_of_page page) && (is_idle s page && is_some (class_at s page))

-- such pages have no free place any more
abbrev pub collected : State → Lists → ℕ → Lists
collected s l worker = record l {
  free = map (λ page. if is_collected s worker page then [] else list_at l.free page) (pages_in s);
  local_free = map
      (λ page. if is_collected s worker page then [] else list_at l.local_free page)
      (pages_in s);
}

-- the lists after a worker's event and its answer; other events and answers leave them
abbrev pub lists_after : Kept → ℕ → Event → Answer → Lists
lists_after k worker (event.Alloc actor arena bytes) (answer.Block handle) =
    given_from k.state k.lists (size_of bytes) (page_number handle.place)
lists_after k worker (event.Free actor handle) answer.Done =
    came_home k.state k.lists (number_of handle.place)
lists_after k worker event.Deliver answer.Done = delivered k.lists (hand_of k.state worker)
lists_after k worker (event.Take segment) (answer.Taken n) = taken k.state k.lists segment
lists_after k worker event.Collect (answer.Pages n) = collected k.state k.lists worker
lists_after k worker event answer = k.lists
