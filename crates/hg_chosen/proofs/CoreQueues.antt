-- The queues of a core's heaps, as what it is seen as has them.
use Rattle.std.proofs.Common.{◌≡◌, ℕ, zero, suc, List, [], ◌∷◌, map, slice_index_or, slice_set}
use Rattle.std.proofs.Common.{refl, sym, ap, ◌∙◌}
use Rattle.std.proofs.lemmas.List.{map-set, set-get_or}
use Rattle.hg_place.specs.declared.plain.PlainWords.{PlainWords}
use Rattle.hg_heap.specs.Held.{Held}
use Rattle.hg_agreement.specs.Parts.{kept_of}
use Rattle.hg_choice.specs.Choice.{queues_of}
use Rattle.hg_events.specs.Core.{Core, parts_of, heap_of, nothing_held}

queues_at : (hs : List (Held PlainWords)) (w : ℕ)
    → slice_index_or (map (λ held. held.queues) hs) w []
    ≡ (slice_index_or hs w nothing_held).queues
queues_at [] w = refl
queues_at (x ∷ xs) zero = refl
queues_at (x ∷ xs) (suc w) = queues_at xs w

-- those of a worker
pub queues_seen : (core : Core) (worker : ℕ)
    → queues_of (kept_of (parts_of core)) worker ≡ (heap_of core worker).queues
queues_seen core worker = queues_at core.heaps worker

-- with another heap for the worker
pub queues_set : (core : Core) (worker : ℕ) (heap : Held PlainWords) (queues : List (List ℕ))
    → heap.queues ≡ queues
    → map (λ held. held.queues) (slice_set core.heaps worker heap)
    ≡ slice_set (map (λ held. held.queues) core.heaps) worker queues
queues_set core worker heap queues e =
    map-set (λ (held : Held PlainWords). held.queues) core.heaps worker heap
    ∙ ap (slice_set (map (λ (held : Held PlainWords). held.queues) core.heaps) worker) e

-- that has the same queues
pub queues_same : (core : Core) (worker : ℕ) (heap : Held PlainWords)
    → heap.queues ≡ (heap_of core worker).queues
    → map (λ held. held.queues) (slice_set core.heaps worker heap)
    ≡ map (λ held. held.queues) core.heaps
queues_same core worker heap e =
    queues_set core worker heap (queues_of (kept_of (parts_of core)) worker)
    (e ∙ sym (queues_seen core worker))
    ∙ set-get_or (map (λ (held : Held PlainWords). held.queues) core.heaps) worker []
