-- The order of choice, over what a core is seen as: which place a worker gives out next.
use Rattle.std.specs.Prelude.{ℕ, List, [], Option, Some, None, find, slice_get, slice_index_or}
use Rattle.hg_size.specs.Sizes.{number_of_size}
use Rattle.hg_size.specs.SizeLaws.{key_of}
use Rattle.hg_queue.specs.Queues.{queue_of}
use Rattle.hg_heap.specs.Choice.{next_index}
use Rattle.hg_machine.specs.State.{places_in}
use Rattle.hg_machine.specs.Room.{is_open_to}
use Rattle.hg_machine.specs.Lists.{Kept}
use Rattle.hg_choice.specs.PageLists.{lists_on}

-- the queues of a worker, by key
abbrev pub queues_of : Kept → ℕ → List (List ℕ)
queues_of k worker = slice_index_or k.queues worker []

-- the page at the front of the worker's queue of the arena and the size
abbrev pub front_page : Kept → ℕ → ℕ → ℕ → Option ℕ
front_page k worker arena size =
    slice_get (queue_of (queues_of k worker) (key_of arena (number_of_size size))) 0

-- of that page the head of `free`, or of `local_free` where `free` is empty; where the queue is
-- empty the least place that may have a block of the size, in a page without a class, in a segment
-- of the arena that the worker holds
abbrev pub chosen_by : Kept → ℕ → ℕ → ℕ → Option ℕ → Option ℕ
chosen_by k worker arena size (Some page) = next_index (lists_on k.lists page)
chosen_by k worker arena size None =
    find (is_open_to k.state worker arena size None) (places_in k.state)

-- the place that the worker gives out next for a block of the size in the arena
abbrev pub chosen_place : Kept → ℕ → ℕ → ℕ → Option ℕ
chosen_place k worker arena size =
    chosen_by k worker arena size (front_page k worker arena size)
