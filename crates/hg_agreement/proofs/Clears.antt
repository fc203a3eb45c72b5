-- A Collect, in the state of a core.
use Rattle.std.proofs.Common.{zero, suc, ◌≡◌, ◌⊎◌, ℕ, ◌+◌, ◌*◌, ◌%◌, ◌==◌, ◌<◌, inl, inr, Bool}
use Rattle.std.proofs.Common.{true, false, cond, not, ◌&&◌, if◌then◌else◌, ◌∷◌, [], List, map}
use Rattle.std.proofs.Common.{length, Option, Some, None, refl, sym, ap, ◌∙◌, arith, find, is_some}
use Rattle.std.proofs.Common.{slice_index_or}
use Rattle.std.specs.List.{list_all, list_any, range_with_len}
use Rattle.std.proofs.lemmas.Bool.{cases_Bool}
use Rattle.std.proofs.lemmas.List.FromFn.{length-map-range_with_len}
use Rattle.hg_place.specs.Places.{segment_of, segment_of_page}
use Rattle.hg_place.specs.Slots.{slot_in}
use Rattle.hg_machine.specs.Life.{is_home}
use Rattle.hg_machine.specs.State.{record_at, class_at, pages_in}
use Rattle.hg_machine.specs.Sweeps.{is_idle, cleared}
use Rattle.hg_place.specs.Standings.{standing_at, is_home as at_home}
use Rattle.hg_agreement.specs.Holdings.{block_of, class_of, has}
use Rattle.hg_agreement.specs.Parts.{Plain, Parts, is_of, heap_at, holdings, worker_of, plain_by}
use Rattle.hg_agreement.specs.Parts.{plain_of, record_by, class_by, record_of, page_class}
use Rattle.hg_agreement.specs.Parts.{holder_by, holder_of, state_of, IsSorted}
use Rattle.hg_agreement.specs.Swept.{is_idle_of, IsSwept, AreSwept, with_heap, SweptIsCleared}
use Rattle.hg_agreement.proofs.HeldLives.{held_home}
use Rattle.hg_agreement.proofs.Bridge.{worker_held, holds_had}
use Rattle.hg_agreement.proofs.Told.{record_is, class_is}
use Rattle.hg_agreement.proofs.ReplacedHeap.{has_found, found_has, ReplacesHeap, heap_here, find_each, has_each, worker_each}
use Rattle.hg_agreement.proofs.Lookups.{maps, maps_below}

-- a segment is in neither heap, or in both, swept
abbrev BothOrNone : ℕ → List Plain → List Plain → Type 0
BothOrNone segment xs ys =
    ((find (is_of segment) xs ≡ None) × (find (is_of segment) ys ≡ None))
    ⊎ ((one : Plain) × (now : Plain) × (find (is_of segment) xs ≡ Some one)
    × (find (is_of segment) ys ≡ Some now) × IsSwept one now)

swept_find : (segment : ℕ) (xs ys : List Plain) → AreSwept xs ys → BothOrNone segment xs ys
swept_find segment [] [] swept = inl (refl, refl)
swept_find segment [] (y ∷ ys) swept = let l = swept.long in absurd (omega arith)
swept_find segment (x ∷ xs) [] swept = let l = swept.long in absurd (omega arith)
swept_find segment (x ∷ xs) (y ∷ ys) swept =
    let sw : IsSwept x y = swept.each 0 x y refl refl in
    let l = swept.long in
    let rest : AreSwept xs ys =
    record {
      long = omega arith;
      each = λ found one now e f. swept.each (suc found) one now e f;
    } in
    elim (cases_Bool (x.holding.number == segment)) [
      | inl t ↦ inr (
        x,
        y,
        ap (λ b. cond b (Some x) (find (is_of segment) xs)) t,
        ap (λ b. cond b (Some y) (find (is_of segment) ys)) (ap (λ k. k == segment) sw.number ∙ t),
        sw,
      )
      | inr f ↦
          let before = ap (λ b. cond b (Some x) (find (is_of segment) xs)) f in
          let after = ap (λ b. cond b (Some y) (find (is_of segment) ys))
          (ap (λ k. k == segment) sw.number ∙ f) in
          elim (swept_find segment xs ys rest) [
            | inl none ↦ inl (before ∙ none.0, after ∙ none.1)
            | inr some ↦ inr (some.0, some.1, before ∙ some.2, after ∙ some.3, some.4)
          ]
    ]

alls_moved : (f g : ℕ → Bool) (a b n : ℕ) → ((k : ℕ) → k < n → f (a + k) ≡ g (b + k))
    → list_all f (range_with_len a n) ≡ list_all g (range_with_len b n)
alls_moved f g a b zero e = refl
alls_moved f g a b (suc n) e =
    ap (λ x. x && list_all f (range_with_len (a + 1) n)) (ap f (omega arith) ∙ e 0 (omega arith)
    ∙ ap g (omega arith))
    ∙ ap (λ x. g b && x) (alls_moved f g (a + 1) (b + 1) n (λ k below. ap f (omega arith)
    ∙ e (k + 1) (omega arith) ∙ ap g (omega arith)))

module _ (parts : Parts) (w : ℕ) (heap : List Plain) (sorted : IsSorted parts)
    (below : w < length parts.heaps) (swept : AreSwept (heap_at parts w) heap) where
  abbrev after : Parts
  after = with_heap parts w heap

  new : ReplacesHeap parts after w heap
  new = record { heaps = refl; below = below }

  same_found : (segment : ℕ) (xs ys : List Plain) → BothOrNone segment xs ys
      → has (holdings ys) segment ≡ has (holdings xs) segment
  same_found segment xs ys (inl none) = found_has ys xs segment (none.1 ∙ sym none.0)
  same_found segment xs ys (inr some) =
      has_found ys segment ∙ ap is_some some.3
      ∙ sym (has_found xs segment ∙ ap is_some some.2)

  same_has : (segment : ℕ) → has (holdings heap) segment ≡ has (holdings (heap_at parts w)) segment
  same_has segment = same_found segment (heap_at parts w) heap
      (swept_find segment (heap_at parts w) heap swept)

  -- each heap has the segments it had
  pub swept_has : (segment v : ℕ)
      → has (holdings (heap_at after v)) segment ≡ has (holdings (heap_at parts v)) segment
  swept_has segment v = has_each new segment (same_has segment) v

  pub swept_worker : (segment : ℕ) → worker_of after segment ≡ worker_of parts segment
  swept_worker segment = worker_each new segment (same_has segment)

  holder_same : (segment : ℕ) → holder_of after segment ≡ holder_of parts segment
  holder_same segment =
      ap (λ o. holder_by o (list_any (is_of segment) parts.orphans)) (swept_worker segment)

  -- a segment of the heap, before and after
  here : (segment : ℕ) (one now : Plain) → find (is_of segment) (heap_at parts w) ≡ Some one
      → find (is_of segment) heap ≡ Some now → (has (holdings (heap_at parts w)) segment ≡ true)
      × (plain_of parts segment ≡ Some one) × (plain_of after segment ≡ Some now)
  here segment one now was is =
      let t : has (holdings (heap_at parts w)) segment ≡ true =
      has_found (heap_at parts w) segment ∙ ap is_some was in
      let held = worker_held parts w sorted below segment t in (
        t,
        ap (plain_by parts segment) held ∙ was,
        ap (plain_by after segment) (swept_worker segment ∙ held)
            ∙ ap (find (is_of segment)) (heap_here new) ∙ is,
      )

  -- another segment
  away_by : (segment : ℕ) (o : Option ℕ) → find (is_of segment) (heap_at parts w) ≡ None
      → find (is_of segment) heap ≡ None → plain_by after segment o ≡ plain_by parts segment o
  away_by segment None was is = refl
  away_by segment (Some v) was is = find_each new segment (is ∙ sym was) v

  away : (segment : ℕ) → find (is_of segment) (heap_at parts w) ≡ None
      → find (is_of segment) heap ≡ None → plain_of after segment ≡ plain_of parts segment
  away segment was is =
      ap (plain_by after segment) (swept_worker segment)
      ∙ away_by segment (worker_of parts segment) was is

  not_had : (segment : ℕ) → find (is_of segment) (heap_at parts w) ≡ None
      → has (holdings (heap_at parts w)) segment ≡ false
  not_had segment was =
      has_found (heap_at parts w) segment ∙ ap is_some was

  record_same : (q : ℕ) → record_of after q ≡ record_of parts q
  record_same q =
      elim (swept_find (segment_of q) (heap_at parts w) heap swept) [
        | inl none ↦ ap (λ o. record_by o (q % 8192)) (away (segment_of q) none.0 none.1)
        | inr some ↦
            let at = here (segment_of q) some.0 some.1 some.2 some.3 in
            ap (λ o. record_by o (q % 8192)) at.2
            ∙ some.4.records (q % 8192) (omega arith)
            ∙ sym (ap (λ o. record_by o (q % 8192)) at.1)
      ]

  idle_same : (page : ℕ) (one : Plain) → page < length parts.policy.segments * 16
      → plain_of parts (segment_of_page page) ≡ Some one → is_idle (state_of parts) page
      ≡ is_idle_of one (page % 16)
  idle_same page one h is =
      alls_moved (λ place. is_home (record_at (state_of parts) place).life)
      (λ at. at_home (standing_at one.holding.standings at)) (page * 512) (page % 16 * 512) 512
      (λ k low.
      let q = page * 512 + k in
      let at = page % 16 * 512 + k in
      let s : segment_of q ≡ segment_of_page page = omega arith in
      let m : q % 8192 ≡ at = omega arith in
      ap (λ r. is_home r.life) (record_is parts q (omega arith)
      ∙ ap (λ o. record_by o (q % 8192)) (ap (plain_of parts) s ∙ is) ∙ ap (record_by (Some one)) m)
      ∙ held_home (not (slot_in (slice_index_or one.slots at 0)).live)
      (standing_at one.holding.standings at) (block_of one.holding at))

  class_cleared : (page : ℕ) → page < length parts.policy.segments * 16
      → page_class after page ≡ cleared (state_of parts) w page
  class_cleared page h =
      elim (swept_find (segment_of_page page) (heap_at parts w) heap swept) [
        | inl none ↦
            ap (λ o. class_by o (page % 16)) (away (segment_of_page page) none.0 none.1)
            ∙ sym (class_is parts page h)
            ∙ sym (ap (λ b. if b && is_idle (state_of parts) page then None else class_at
            (state_of parts) page) (holds_had parts w sorted below (segment_of_page page)
            ∙ not_had (segment_of_page page) none.0))
        | inr some ↦
            let at = here (segment_of_page page) some.0 some.1 some.2 some.3 in
            ap (λ o. class_by o (page % 16)) at.2
            ∙ some.4.classes (page % 16) (omega arith)
            ∙ sym (ap (λ b. if b then None else class_of some.0.holding (page % 16))
            (idle_same page some.0 h at.1))
            ∙ sym (ap (λ c. if is_idle (state_of parts) page then None else c)
            (class_is parts page h
            ∙ ap (λ o. class_by o (page % 16)) at.1))
            ∙ sym (ap (λ b. if b && is_idle (state_of parts) page then None else class_at
            (state_of parts) page) (holds_had parts w sorted below (segment_of_page page) ∙ at.0))
      ]

  clears : state_of after ≡ record (state_of parts) {
    classes = map (cleared (state_of parts) w) (pages_in (state_of parts));
  }
  clears =
      let s = state_of parts in
      let segments = length parts.policy.segments in
      let r = maps (record_of after) (record_of parts) (range_with_len 0 (segments * 8192))
      record_same in
      let c = maps_below (page_class after) (cleared s w) 0 (segments * 16)
      (λ k low high. class_cleared k (omega arith))
      ∙ ap (λ l. map (cleared s w) (range_with_len 0 l))
      (sym (length-map-range_with_len (page_class parts) 0 (segments * 16))) in
      let h = maps (holder_of after) (holder_of parts) (range_with_len 0 segments) holder_same in
      cc

pub swept_is_cleared : SweptIsCleared
swept_is_cleared parts worker heap sorted below swept = clears parts worker heap sorted below swept
