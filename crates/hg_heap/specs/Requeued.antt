-- The queues after the lists of one page have changed.
use Rattle.std.specs.Prelude.{ℕ, ◌==◌, Bool, true, false, List, ◌∷◌, map, slice_set, if◌then◌else◌}
use Rattle.std.specs.List.{list_any}
use Rattle.hg_lists.specs.Lists.{without}
use Rattle.hg_queue.specs.Queues.{queue_of}

-- A page of this key that has a place to give out now, or has none. With none it stands in no queue;
-- one that had none goes to the front; one that had some keeps its turn
abbrev pub requeued : ℕ → ℕ → Bool → List (List ℕ) → List (List ℕ)
requeued key page false queues = map (without page) queues
requeued key page true queues =
    if list_any (λ other. other == page) (queue_of queues key)
    then queues
    else slice_set queues key (page ∷ queue_of queues key)
