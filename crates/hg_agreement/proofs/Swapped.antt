-- One segment of a heap changed, in the state of a core.
use Rattle.std.proofs.Common.{if◌then◌else◌, ◌≡◌, ℕ, ◌*◌, ◌%◌, ◌<◌, inl, inr, Bool, true, List, map}
use Rattle.std.proofs.Common.{length, set, Option, Some, None, refl, sym, ap, ◌∙◌, arith, find}
use Rattle.std.proofs.Common.{is_some, slice_get}
use Rattle.std.specs.List.{range_with_len, list_any}
use Rattle.std.proofs.lemmas.Bool.{cases_eq, eq-eqb, ne_eqb}
use Rattle.std.proofs.lemmas.List.Folds.{find_at, find-set, find_past}
use Rattle.std.proofs.lemmas.List.FromFn.{length-map-range_with_len, get_or-map-range_with_len}
use Rattle.std.proofs.lemmas.Option.{slice_get_within, get_or_from_slice_get}
use Rattle.hg_place.specs.Places.{segment_of, segment_of_page}
use Rattle.hg_machine.specs.State.{record_at, class_at, places_in, pages_in}
use Rattle.hg_machine.specs.Life.{Record, never_used}
use Rattle.hg_agreement.specs.Holdings.{has, class_of}
use Rattle.hg_agreement.specs.Parts.{Plain, Parts, is_of, heap_at, holdings, worker_of, plain_by}
use Rattle.hg_agreement.specs.Parts.{plain_of, record_by, class_by, record_of, page_class}
use Rattle.hg_agreement.specs.Parts.{holder_by, holder_of, state_of, IsSorted}
use Rattle.hg_agreement.specs.PlainPut.{with_plain, IsSwap, record_now, class_now, SwapIsMap}
use Rattle.hg_agreement.proofs.Lookups.{maps, maps_below}
use Rattle.hg_agreement.proofs.ReplacedHeap.{has_found, found_has, one_has, ReplacesHeap, heap_here}
use Rattle.hg_agreement.proofs.ReplacedHeap.{find_each, has_each, worker_each}

module _ (parts : Parts) (w found : ℕ) (one now : Plain) (sorted : IsSorted parts)
    (swap : IsSwap parts w found one now) where
  abbrev n : ℕ
  n = one.holding.number

  abbrev heap : List Plain
  heap = set (heap_at parts w) found now

  abbrev after : Parts
  after = with_plain parts w found now

  abbrev segments : ℕ
  segments = length parts.policy.segments

  new : ReplacesHeap parts after w heap
  new = record { heaps = refl; below = swap.worker_below }

  others : (segment : ℕ) → (segment ≡ n → ⊥)
      → find (is_of segment) heap ≡ find (is_of segment) (heap_at parts w)
  others segment ne = find_past (is_of segment) (heap_at parts w) found now one
      (ap (is_of segment) (get_or_from_slice_get (heap_at parts w) found one one swap.there)
      ∙ ne_eqb n segment (λ e. ne (sym e)))
      (ne_eqb now.holding.number segment (λ e. ne (sym e ∙ swap.number)))

  before_here : find (is_of n) (heap_at parts w) ≡ Some one
  before_here = find_at (is_of n) (heap_at parts w)
      ∙ ap (slice_get (heap_at parts w)) (sym swap.first) ∙ swap.there

  find_here : find (is_of n) heap ≡ Some now
  find_here = find-set (is_of n) (heap_at parts w) found now swap.first
      (slice_get_within (heap_at parts w) found one swap.there)
      (eq-eqb now.holding.number n swap.number)

  pub swap_had : has (holdings (heap_at parts w)) n ≡ true
  swap_had = has_found (heap_at parts w) n ∙ ap is_some before_here

  pub swap_below : n < segments
  swap_below = sorted.below w n swap_had

  -- each heap has the segments it had
  has_same : (segment : ℕ)
      → has (holdings heap) segment ≡ has (holdings (heap_at parts w)) segment
  has_same segment = elim (cases_eq segment n) [
    | inl e ↦ rw e (has_found heap n ∙ ap is_some find_here ∙ sym swap_had)
    | inr ne ↦ found_has heap (heap_at parts w) segment (others segment ne)
  ]

  pub swap_has : (segment v : ℕ)
      → has (holdings (heap_at after v)) segment ≡ has (holdings (heap_at parts v)) segment
  swap_has segment v = has_each new segment (has_same segment) v

  pub swap_worker : (segment : ℕ) → worker_of after segment ≡ worker_of parts segment
  swap_worker segment = worker_each new segment (has_same segment)

  worker_n : worker_of parts n ≡ Some w
  worker_n = one_has parts w n swap.worker_below swap_had
      (λ v t. sorted.one_heap v w n t swap_had)

  -- the segment before the change, and after it
  pub swap_before : plain_of parts n ≡ Some one
  swap_before = ap (plain_by parts n) worker_n ∙ before_here

  pub swap_after : plain_of after n ≡ Some now
  swap_after =
      ap (plain_by after n) (swap_worker n ∙ worker_n) ∙ ap (find (is_of n)) (heap_here new)
      ∙ find_here

  by_same : (segment : ℕ) (o : Option ℕ) → (segment ≡ n → ⊥)
      → plain_by after segment o ≡ plain_by parts segment o
  by_same segment None ne = refl
  by_same segment (Some v) ne = find_each new segment (others segment ne) v

  pub swap_other : (segment : ℕ) → (segment ≡ n → ⊥)
      → plain_of after segment ≡ plain_of parts segment
  swap_other segment ne =
      ap (plain_by after segment) (swap_worker segment)
      ∙ by_same segment (worker_of parts segment) ne

  pub swap_holders : map (holder_of after) (range_with_len 0 segments)
      ≡ map (holder_of parts) (range_with_len 0 segments)
  swap_holders = maps (holder_of after) (holder_of parts) (range_with_len 0 segments)
      (λ k. ap (λ o. holder_by o (list_any (is_of k) parts.orphans)) (swap_worker k))

  record_swapped : (q : ℕ) → q < segments * 8192 → record_of after q ≡ record_now parts now q
  record_swapped q below =
      let by : Bool → Record = λ b. if b then record_by (Some now) (q % 8192) else record_at (state_of parts) q in
      elim (cases_eq (segment_of q) n) [
        | inl e ↦
            rw e (ap (λ o. record_by o (q % 8192)) swap_after)
            ∙ sym (ap by (eq-eqb (segment_of q) now.holding.number (e ∙ sym swap.number)))
        | inr away ↦
            ap (λ o. record_by o (q % 8192)) (swap_other (segment_of q) away)
            ∙ sym (get_or-map-range_with_len (record_of parts) 0 (segments * 8192) q
            q never_used below (omega arith))
            ∙ sym (ap by (ne_eqb (segment_of q) now.holding.number (λ e. away (e ∙ swap.number))))
      ]

  class_swapped : (q : ℕ) → q < segments * 16 → page_class after q ≡ class_now parts now q
  class_swapped q below =
      let by : Bool → Option ℕ = λ b. if b then class_of now.holding (q % 16) else class_at (state_of parts) q in
      elim (cases_eq (segment_of_page q) n) [
        | inl e ↦
            ap (λ s. class_by (plain_of after s) (q % 16)) e
            ∙ ap (λ o. class_by o (q % 16)) swap_after
            ∙ sym (ap by (eq-eqb (segment_of_page q) now.holding.number (e ∙ sym swap.number)))
        | inr away ↦
            ap (λ o. class_by o (q % 16)) (swap_other (segment_of_page q) away)
            ∙ sym (get_or-map-range_with_len (page_class parts) 0 (segments * 16) q
            q None below (omega arith))
            ∙ sym (ap by (ne_eqb (segment_of_page q) now.holding.number (λ e. away (e ∙ swap.number))))
      ]

  swap_is : state_of after ≡ record (state_of parts) {
    records = map (record_now parts now) (places_in (state_of parts));
    classes = map (class_now parts now) (pages_in (state_of parts));
  }
  swap_is =
      let r = maps_below (record_of after) (record_now parts now) 0 (segments * 8192)
      (λ k low high. record_swapped k (omega arith))
      ∙ ap (λ l. map (record_now parts now) (range_with_len 0 l))
      (sym (length-map-range_with_len (record_of parts) 0 (segments * 8192))) in
      let c = maps_below (page_class after) (class_now parts now) 0 (segments * 16)
      (λ k low high. class_swapped k (omega arith))
      ∙ ap (λ l. map (class_now parts now) (range_with_len 0 l))
      (sym (length-map-range_with_len (page_class parts) 0 (segments * 16))) in
      cc (swap_holders)

pub swap_is_map : SwapIsMap
swap_is_map parts worker found one now sorted swap = swap_is parts worker found one now sorted swap
