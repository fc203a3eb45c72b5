-- A core with another heap for one worker, in which one segment alone is otherwise than before.
use Rattle.std.proofs.Common.{◌≡◌, ℕ, ◌*◌, ◌%◌, ◌==◌, ◌<◌, inl, inr, Bool, true, false, cond, ◌∷◌}
use Rattle.std.proofs.Common.{[], List, map, length, get_or, set, Some, refl, sym, ap, ◌∙◌, arith}
use Rattle.std.proofs.Common.{find, is_some}
use Rattle.std.specs.List.{range_with_len}
use Rattle.std.proofs.lemmas.Bool.{cases_eq}
use Rattle.std.proofs.lemmas.Grind.{get_or-set_at}
use Rattle.std.proofs.lemmas.List.{length-set, get_or-set_other}
use Rattle.hg_place.specs.Places.{segment_of, segment_of_page}
use Rattle.hg_machine.specs.State.{Holder, fresh}
use Rattle.hg_agreement.specs.Holdings.{holding_of, has}
use Rattle.hg_agreement.specs.Parts.{Plain, Parts, is_of, heap_at, holdings, worker_of, plain_of}
use Rattle.hg_agreement.specs.Parts.{record_by, class_by, record_of, page_class, holder_of}
use Rattle.hg_agreement.specs.Parts.{state_of}
use Rattle.hg_agreement.specs.LeftPut.{numbers}
use Rattle.hg_agreement.proofs.Lookups.{finds, maps, map_set}
use Rattle.hg_agreement.proofs.Bridge.{some_passes, first_passes}

pub has_found : (heap : List Plain) (segment : ℕ)
    → has (holdings heap) segment ≡ is_some (find (is_of segment) heap)
has_found [] segment = refl
has_found (x ∷ xs) segment =
    elim (x.holding.number == segment) as (λ b. is_some (cond b (Some x.holding)
    (holding_of (holdings xs) segment)) ≡ is_some (cond b (Some x) (find (is_of segment) xs))) [
      | true ↦ refl
      | false ↦ has_found xs segment
    ]

-- the worker that alone has it
pub one_has : (parts : Parts) (w n : ℕ) → w < length parts.heaps
    → has (holdings (heap_at parts w)) n ≡ true
    → ((v : ℕ) → has (holdings (heap_at parts v)) n ≡ true → v ≡ w) → worker_of parts n ≡ Some w
one_has parts w n below here alone =
    let p : ℕ → Bool = λ v. has (holdings (heap_at parts v)) n in
    let some = some_passes p 0 (length parts.heaps) w (omega arith) (omega arith) here in
    some.1 ∙ ap Some (alone some.0 (first_passes p 0 (length parts.heaps) some.0 some.1))

pub found_has : (xs ys : List Plain) (segment : ℕ) → find (is_of segment) xs ≡ find (is_of segment) ys
    → has (holdings xs) segment ≡ has (holdings ys) segment
found_has xs ys segment e =
    has_found xs segment ∙ ap is_some e ∙ sym (has_found ys segment)

pub record ReplacesHeap (parts after : Parts) (worker : ℕ) (heap : List Plain) : Type 0 where
  pub heaps : after.heaps ≡ set parts.heaps worker heap
  pub below : worker < length parts.heaps

module _ {parts after : Parts} {w : ℕ} {heap : List Plain}
    (new : ReplacesHeap parts after w heap) where
  pub heap_here : heap_at after w ≡ heap
  heap_here =
      ap (λ hs. get_or hs w []) new.heaps ∙ get_or-set_at parts.heaps w w heap [] refl new.below

  pub heap_there : (v : ℕ) → (v ≡ w → ⊥) → heap_at after v ≡ heap_at parts v
  heap_there v ne =
      ap (λ hs. get_or hs v []) new.heaps ∙ get_or-set_other parts.heaps w v heap [] ne

  -- what is so of the heap that comes as of the one that goes is so of each
  pub find_each : (segment : ℕ)
      → find (is_of segment) heap ≡ find (is_of segment) (heap_at parts w)
      → (v : ℕ) → find (is_of segment) (heap_at after v) ≡ find (is_of segment) (heap_at parts v)
  find_each segment same v = elim (cases_eq v w) [
    | inl e ↦ rw e (ap (find (is_of segment)) heap_here ∙ same)
    | inr away ↦ ap (find (is_of segment)) (heap_there v away)
  ]

  pub has_each : (segment : ℕ)
      → has (holdings heap) segment ≡ has (holdings (heap_at parts w)) segment
      → (v : ℕ) → has (holdings (heap_at after v)) segment ≡ has (holdings (heap_at parts v)) segment
  has_each segment same v = elim (cases_eq v w) [
    | inl e ↦ rw e (ap (λ h. has (holdings h) segment) heap_here ∙ same)
    | inr away ↦ ap (λ h. has (holdings h) segment) (heap_there v away)
  ]

  pub worker_each : (segment : ℕ)
      → has (holdings heap) segment ≡ has (holdings (heap_at parts w)) segment
      → worker_of after segment ≡ worker_of parts segment
  worker_each segment same =
      let has_it : ℕ → Bool = λ v. has (holdings (heap_at parts v)) segment in
      finds (λ v. has (holdings (heap_at after v)) segment) has_it
      (range_with_len 0 (length after.heaps)) (has_each segment same)
      ∙ ap (λ l. find has_it (range_with_len 0 l))
      (ap length new.heaps ∙ length-set parts.heaps w heap)

-- a segment moves between a heap and the pool: its holder and the orphans alone are others
abbrev pub rehoused : Parts → List (List Plain) → List Plain → List Plain → Parts
rehoused parts heaps orphans fresh_ones =
    record parts { heaps = heaps; orphans = orphans; fresh = fresh_ones }

pub state_rehoused : (parts : Parts) (heaps : List (List Plain)) (orphans fresh_ones : List Plain)
    (n : ℕ) (h : Holder) → n < length parts.policy.segments
    → ((segment : ℕ) → plain_of (rehoused parts heaps orphans fresh_ones) segment ≡ plain_of parts segment)
    → ((segment : ℕ) → (segment ≡ n → ⊥)
    → holder_of (rehoused parts heaps orphans fresh_ones) segment ≡ holder_of parts segment)
    → holder_of (rehoused parts heaps orphans fresh_ones) n ≡ h
    → state_of (rehoused parts heaps orphans fresh_ones) ≡ record (state_of parts) {
      holders = set (state_of parts).holders n h;
      orphans = numbers orphans;
    }
state_rehoused parts heaps orphans fresh_ones n h below plain other now =
    let a = rehoused parts heaps orphans fresh_ones in
    let segments = length parts.policy.segments in
    let r = maps (record_of a) (record_of parts) (range_with_len 0 (segments * 8192))
    (λ q. ap (λ o. record_by o (q % 8192)) (plain (segment_of q))) in
    let c = maps (page_class a) (page_class parts) (range_with_len 0 (segments * 16))
    (λ q. ap (λ o. class_by o (q % 16)) (plain (segment_of_page q))) in
    let s = map_set (holder_of parts) (holder_of a) segments n fresh below other
    ∙ ap (set (map (holder_of parts) (range_with_len 0 segments)) n) now in
    cc
