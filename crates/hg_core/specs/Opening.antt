-- What a core is seen as when it opens.
use Rattle.std.specs.Prelude.{ℕ, ◌*◌, List, [], length, replicate}
use Rattle.hg_place.specs.declared.geometry.TheConstants.{SEGMENT_PAGES}
use Rattle.hg_size.specs.declared.TheConstants.{CLASSES}
use Rattle.hg_queue.specs.declared.page_queues.TheConstants.{ARENAS}
use Rattle.hg_machine.specs.Policy.{Policy}
use Rattle.hg_machine.specs.State.{opening}
use Rattle.hg_machine.specs.Lists.{Kept}

-- a queue for each arena and class, with no page
abbrev pub empty_queues : List (List ℕ)
empty_queues = replicate (ARENAS * CLASSES) []

-- the opening state; the lists of each page and of each segment are empty, and the queues of each
-- worker
abbrev pub opened : Policy → Kept
opened policy = record {
  state = opening policy;
  lists = record {
    free = replicate (length policy.segments * SEGMENT_PAGES) [];
    local_free = replicate (length policy.segments * SEGMENT_PAGES) [];
    thread_free = replicate (length policy.segments * SEGMENT_PAGES) [];
    delayed = replicate (length policy.segments) [];
  };
  queues = replicate policy.workers empty_queues;
}
