-- What a worker's event and its answer leave of the queues.
use Rattle.std.specs.Prelude.{ℕ, ◌*◌, ◌&&◌, not, List, [], ◌∷◌, ◌++◌, length, Option, Some, None}
use Rattle.std.specs.Prelude.{map, filter, reverse, option_map, option_and_then, slice_set}
use Rattle.std.specs.List.{range_with_len}
use Rattle.hg_place.specs.declared.geometry.TheConstants.{SEGMENT_PAGES}
use Rattle.hg_place.specs.Places.{number_of, page_number, page_of, segment_of_page}
use Rattle.hg_size.specs.Sizes.{number_of_size}
use Rattle.hg_size.specs.SizeLaws.{key_of}
use Rattle.hg_queue.specs.Queues.{queue_of}
use Rattle.hg_remote.specs.Order.{drained}
use Rattle.hg_heap.specs.Held.{has_place}
use Rattle.hg_heap.specs.Requeued.{requeued}
use Rattle.hg_heap.specs.Releasing.{without_pages}
use Rattle.hg_heap.specs.Entering.{is_key_of}
use Rattle.hg_machine.specs.declared.Event.{Event}
use Rattle.hg_machine.specs.declared.Event.TheVariants as event
use Rattle.hg_machine.specs.declared.Answer.{Answer}
use Rattle.hg_machine.specs.declared.Answer.TheVariants as answer
use Rattle.hg_machine.specs.Policy.{arena_of}
use Rattle.hg_machine.specs.State.{State, class_at}
use Rattle.hg_machine.specs.Request.{size_of}
use Rattle.hg_machine.specs.Lists.{Lists, Kept}
use Rattle.hg_choice.specs.PageLists.{lists_on}
use Rattle.hg_choice.specs.Choice.{queues_of}
use Rattle.hg_choice.specs.ListsAfter.{given_from, came_home, remote_of, is_collected}

-- the key of a page that has a class: its arena and its class
abbrev pub key_on : State → ℕ → Option ℕ
key_on s page =
    option_and_then
    (λ arena. option_map (λ size. key_of arena (number_of_size size)) (class_at s page))
    (arena_of s.policy (segment_of_page page))

-- the page stands where it belongs by these lists: in the queue of its key, or in none
abbrev pub placed : Lists → ℕ → Option ℕ → List (List ℕ) → List (List ℕ)
placed l page None queues = queues
placed l page (Some key) queues = requeued key page (has_place (lists_on l page)) queues

-- these places came home one after the other, and the page of each stands where it belongs
abbrev pub all_placed : State → Lists → List ℕ → List (List ℕ) → List (List ℕ)
all_placed s l [] queues = queues
all_placed s l (place ∷ places) queues =
    all_placed s (came_home s l place) places
    (placed (came_home s l place) (page_of place) (key_on s (page_of place)) queues)

-- the pages of the segment of this key that have a place to give out, rising
abbrev pub pages_of_key : State → Lists → ℕ → ℕ → ℕ → List ℕ
pages_of_key s l arena segment key =
    filter (λ page. is_key_of arena (class_at s page) key && has_place (lists_on l page))
    (range_with_len (segment * SEGMENT_PAGES) SEGMENT_PAGES)

-- they are in front of their queues, the greatest foremost
abbrev pub with_pages : State → Lists → ℕ → ℕ → List (List ℕ) → List (List ℕ)
with_pages s l arena segment queues =
    map (λ key. reverse (pages_of_key s l arena segment key) ++ queue_of queues key)
    (range_with_len 0 (length queues))

-- the queues with these for the worker; those of the others are as they were
abbrev pub with_queues : Kept → ℕ → List (List ℕ) → List (List (List ℕ))
with_queues k worker queues = slice_set k.queues worker queues

-- the queues after a worker's event and its answer; other events and answers leave them
abbrev pub queues_after : Kept → ℕ → Event → Answer → List (List (List ℕ))
queues_after k worker (event.Alloc actor arena bytes) (answer.Block handle) =
    with_queues k worker
    (placed (given_from k.state k.lists (size_of bytes) (page_number handle.place))
    (page_number handle.place) (Some (key_of arena (number_of_size (size_of bytes))))
    (queues_of k worker))
queues_after k worker (event.Free actor handle) answer.Done =
    with_queues k worker
    (all_placed k.state k.lists (number_of handle.place ∷ []) (queues_of k worker))
queues_after k worker (event.Take segment) (answer.Taken n) =
    with_queues k worker
    (all_placed k.state k.lists (drained (remote_of k.lists segment)) (queues_of k worker))
queues_after k worker event.Collect (answer.Pages n) =
    with_queues k worker
    (map (filter (λ page. not (is_collected k.state worker page))) (queues_of k worker))
queues_after k worker (event.Abandon segment) answer.Done =
    with_queues k worker (without_pages segment (queues_of k worker))
queues_after k worker (event.Refill arena) (answer.Refilled segment) =
    with_queues k worker (with_pages k.state k.lists arena segment (queues_of k worker))
queues_after k worker event answer = k.queues
