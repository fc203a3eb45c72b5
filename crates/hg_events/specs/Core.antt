-- What a core keeps, as hg_heap, hg_remote and hg_pool say it, and the parts that it stands for.
use Rattle.std.specs.Prelude.{ℕ, List, [], Option, map, slice_index_or}
use Rattle.hg_place.specs.declared.plain.PlainWords.{PlainWords}
use Rattle.hg_remote.specs.Remote.{Remote}
use Rattle.hg_pool.specs.Pooled.{Pooled}
use Rattle.hg_heap.specs.Held.{Held}
use Rattle.hg_machine.specs.Policy.{Policy}
use Rattle.hg_agreement.specs.Parts.{Parts, plain_from}
use Rattle.hg_parts.specs.Rights.{remote_from}

-- the heap of each worker, the remote list of each segment, the pool, and what each worker has in
-- hand, a place by its number
pub record Core : Type 0 where
  pub policy : Policy
  pub heaps : List (Held PlainWords)
  pub remotes : List Remote
  pub pool : Pooled PlainWords
  pub hands : List (Option ℕ)

abbrev pub parts_of : Core → Parts
parts_of core = record {
  policy = core.policy;
  heaps = map (λ held. map plain_from held.segments) core.heaps;
  remotes = map remote_from core.remotes;
  orphans = map plain_from core.pool.orphans;
  fresh = map plain_from core.pool.fresh;
  hands = core.hands;
  queues = map (λ held. held.queues) core.heaps;
}

abbrev pub nothing_held : Held PlainWords
nothing_held = record { segments = []; queues = [] }

-- the heap of a worker
abbrev pub heap_of : Core → ℕ → Held PlainWords
heap_of core worker = slice_index_or core.heaps worker nothing_held
