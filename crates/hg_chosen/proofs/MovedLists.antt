-- Lists of parts whose segments stand elsewhere, or are others.
use Rattle.std.proofs.Common.{◌≡◌, ℕ, ◌*◌, ◌%◌, ◌<◌, [], List, length, map, sym, ap, ◌∙◌, arith}
use Rattle.std.proofs.Common.{slice_set}
use Rattle.std.proofs.lemmas.List.{map-set}
use Rattle.std.proofs.lemmas.List.FromFn.{get_or-map-range_with_len}
use Rattle.hg_place.specs.declared.plain.PlainWords.{PlainWords}
use Rattle.hg_place.specs.Places.{segment_of_page}
use Rattle.hg_heap.specs.Held.{Held}
use Rattle.hg_machine.specs.Lists.{list_at}
use Rattle.hg_agreement.specs.Parts.{Plain, Parts, plain_of, lists_by, free_of, local_of, all_pages}
use Rattle.hg_agreement.specs.Parts.{lists_of, places_from, kept_of}
use Rattle.hg_agreement.proofs.Lookups.{maps}
use Rattle.hg_parts.specs.Moved.{moved}
use Rattle.hg_events.specs.Core.{Core, parts_of, heap_of}
use Rattle.hg_choice.specs.QueuesAfter.{with_queues}
use Rattle.hg_choice.specs.Choice.{queues_of}
use Rattle.hg_chosen.proofs.HeapTold.{queues_told}

-- the segments are the same, wherever they stand
pub moved_lists : (parts : Parts) (heaps : List (List Plain)) (orphans unused : List Plain)
    (queues : List (List (List ℕ)))
    → ((n : ℕ) → plain_of (moved parts heaps orphans unused) n ≡ plain_of parts n)
    → lists_of (record (moved parts heaps orphans unused) { queues = queues }) ≡ lists_of parts
moved_lists parts heaps orphans unused queues same =
    let after : Parts = moved parts heaps orphans unused in
    ap (λ fs. record (lists_of parts) {
      free = fs;
      local_free = map (local_of after) (all_pages parts);
    })
    (maps (free_of after) (free_of parts) (all_pages parts)
    (λ q. ap (λ o. places_from (q * 512) (lists_by o (q % 16)).free) (same (segment_of_page q))))
    ∙ ap (λ ls. record (lists_of parts) { local_free = ls })
    (maps (local_of after) (local_of parts) (all_pages parts)
    (λ q. ap (λ o. places_from (q * 512) (lists_by o (q % 16)).local_free)
    (same (segment_of_page q))))

-- the lists of a page of the policy
pub free_at : (parts : Parts) (page : ℕ) → page < length parts.policy.segments * 16
    → list_at (lists_of parts).free page ≡ free_of parts page
free_at parts page h =
    get_or-map-range_with_len (free_of parts) 0 (length parts.policy.segments * 16) page page [] h
    (omega arith)

pub local_at : (parts : Parts) (page : ℕ) → page < length parts.policy.segments * 16
    → list_at (lists_of parts).local_free page ≡ local_of parts page
local_at parts page h =
    get_or-map-range_with_len (local_of parts) 0 (length parts.policy.segments * 16) page page [] h
    (omega arith)

-- the queues of a core with another heap for a worker
pub queues_with : (core : Core) (worker : ℕ) (heap : Held PlainWords)
    (change : List (List ℕ) → List (List ℕ))
    → heap.queues ≡ change (heap_of core worker).queues
    → map (λ held. held.queues) (slice_set core.heaps worker heap)
    ≡ with_queues (kept_of (parts_of core)) worker
    (change (queues_of (kept_of (parts_of core)) worker))
queues_with core worker heap change e =
    let set : List (List ℕ) → List (List (List ℕ)) =
    λ qs. slice_set (map (λ (held : Held PlainWords). held.queues) core.heaps) worker qs in
    map-set (λ held. held.queues) core.heaps worker heap
    ∙ ap set e
    ∙ ap (λ qs. set (change qs)) (sym (queues_told core worker))
