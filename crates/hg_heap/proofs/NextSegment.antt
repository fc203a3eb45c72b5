-- The segment of the place that the order of choice takes.
use Rattle.std.proofs.Common.{◌≡◌, ℕ, ◌+◌, ◌*◌, ◌%◌, true, List, Option, Some, None}
use Rattle.std.proofs.Common.{refl, sym, ap, subst, ◌∙◌, arith, option_map, is_some, Contains}
use Rattle.hg_place.specs.declared.standing.Standing.{Standing}
use Rattle.hg_place.specs.Places.{segment_of, segment_of_page}
use Rattle.hg_size.specs.Sizes.{sizes}
use Rattle.hg_size.proofs.Table.{places_small}
use Rattle.hg_segment.specs.Kept.{Kept}
use Rattle.hg_heap.specs.Held.{Held, segment_in, is_some_place}
use Rattle.hg_heap.specs.Next.{IsNext}
use Rattle.hg_heap.specs.Queues.{AreQueued}
use Rattle.hg_heap.specs.Choice.{blank_on, front_page, blank_page, chosen_place}
use Rattle.hg_heap.specs.Settled.{IsSettled}
use Rattle.hg_heap.proofs.AllocRooms.{some_of}
use Rattle.hg_heap.proofs.Chosen.{IsOpenOn, front_there, blank_there, chosen_front, chosen_blank}

module _ {S : Type 0} (number : S → ℕ) (records : S → List Standing) (held : Held S)
    (arena size : ℕ) where
  module _ (queued : AreQueued number held) (settled : (k : Kept S) → Contains held.segments k
      → IsSettled records k) where
    next_on : {wanted : Option ℕ} (page index : ℕ)
        → IsOpenOn number records arena size wanted
        (segment_in number held.segments (segment_of_page page)) (page % 16) index
        → chosen_place number records held arena size ≡ Some (page * 512 + index) → IsNext number records held arena size page
    next_on page index on chosen =
        let few = places_small size in
        let low = on.below in
        let same : segment_of_page page ≡ segment_of (page * 512 + index) = omega (arith, few, low) in
        record {
          next = ap Some same ∙ sym (ap (option_map segment_of) chosen);
          held_there = ap is_some on.is;
        }

    -- the page at the front of its queue
    pub next_front : (page : ℕ) → Contains sizes size
        → front_page number records held arena size ≡ Some page → IsNext number records held arena size page
    next_front page sized front =
        let f = front_there number records held queued settled arena size page sized front in
        next_on page f.index f.class_there
        (chosen_front number records held queued settled arena size page front f)

    -- the first blank page
    pub next_blank : (page : ℕ) → front_page number records held arena size ≡ None
        → blank_page number records held arena size ≡ Some page
        → is_some_place (blank_on number records held.segments arena size page) ≡ true → IsNext number records held arena size page
    next_blank page empty blank some =
        let x = some_of (blank_on number records held.segments arena size page) some in
        next_on page x.0
        (blank_there number records held queued settled arena size (page % 16) x.0
        (segment_in number held.segments (segment_of_page page))
        (subst (λ (xs : List ℕ). Contains xs x.0) (sym x.2) (0, omega arith, refl)))
        (chosen_blank number records held queued settled arena size page x.0 x.1 empty blank x.2)
