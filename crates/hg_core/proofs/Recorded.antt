-- What is known of a place, by its standing and its slot word.
use Rattle.std.proofs.Common.{◌≡◌, ℕ, ◌*◌, ◌%◌, ◌==◌, ◌<◌, ◌≤◌, Bool, true, false, not, List, length}
use Rattle.std.proofs.Common.{slice_index, slice_index_or, ◌++◌, find, Option, Some, None, refl, sym, ap, subst}
use Rattle.std.proofs.Common.{◌∙◌, arith, inl, inr}
use Rattle.std.specs.Box.{boxed_slice_items}
use Rattle.std.specs.Option.{option_map}
use Rattle.std.proofs.lemmas.Bool.{cases_eq, ne_eqb, eq-eqb}
use Rattle.std.proofs.lemmas.List.{map-append}
use Rattle.std.proofs.lemmas.Option.{same_Some}
use Rattle.hg_place.specs.declared.Place.{Place}
use Rattle.hg_place.specs.declared.plain.PlainWords.{PlainWords}
use Rattle.hg_place.specs.declared.standing.Standing.{Standing}
use Rattle.hg_place.specs.declared.standing.Standing.TheVariants.{Home, Open}
use Rattle.hg_place.specs.Lives.{IsSlotWord}
use Rattle.hg_place.specs.Places.{number_of, segment_of}
use Rattle.hg_place.specs.Plain.{plain_records, plain_words}
use Rattle.hg_place.specs.Slots.{slot_in}
use Rattle.hg_place.specs.Standings.{slot_of, standing_at, standing_generation}
use Rattle.hg_segment.specs.Parted.{plain_number}
use Rattle.hg_heap.specs.Held.{Held, segment_in}
use Rattle.hg_heap.proofs.Founds.{at_is}
use Rattle.hg_pool.specs.Pooled.{IsPooled}
use Rattle.hg_pool.specs.Pooled as pool
use Rattle.hg_machine.specs.Life.{never_used}
use Rattle.hg_machine.specs.State.{record_at, holder_at}
use Rattle.hg_agreement.specs.Holdings.{block_of}
use Rattle.hg_agreement.specs.Parts.{Plain, Parts, is_of, plain_from, plain_by, plain_of}
use Rattle.hg_agreement.specs.Parts.{record_by, state_of, worker_of}
use Rattle.hg_agreement.specs.Witness.{held_life}
use Rattle.hg_agreement.proofs.Closes.{read_as, from_parts}
use Rattle.hg_agreement.proofs.Told.{holder_is}
use Rattle.hg_parts.specs.Rights.{AreSegmentsRight, found_in}
use Rattle.hg_parts.proofs.Records.{found, plain_found, record_here, record_past}
use Rattle.hg_events.specs.Core.{Core, parts_of, heap_of}
use Rattle.hg_segment.specs.Kept.{Kept}
use Rattle.hg_events.proofs.Told.{found_told, heap_told}
use Rattle.hg_audit.specs.Handed.{IsKeptAt}
use Rattle.hg_core.specs.declared.stores.Stores.TheInside.{Inside}
use Rattle.hg_core.specs.Held.{worker_in}
use Rattle.hg_core.specs.Keeping.{state_in, IsKept}
use Rattle.hg_core.specs.Records.{record_told, standing_told}
use Rattle.hg_core.specs.Stored.{core_of, IsStored}
use Rattle.hg_core.proofs.MadeOfParts.{worker_by}
use Rattle.hg_core.proofs.Words.{heap_is}

abbrev K : Type 0
K = Kept PlainWords

-- a slot word is a freed one where it is even
freed_word : (word : ℕ) → IsSlotWord word → not (slot_in word).live ≡ (word % 2 == 0)
freed_word word is =
    let read : slot_in word ≡ read_as word false = ap (read_as word) (from_parts word (record {
      low = (let bits = is.1 in omega (arith, bits));
      unused = λ z. (let only = is.2 in omega (arith, only (omega (arith, z))));
    })) in
    ap (λ s. not s.live) read ∙ elim (cases_eq (word % 2) 1) as (λ _. not (word % 2 == 1)
    ≡ (word % 2 == 0)) [
      | inl odd ↦ ap not (eq-eqb (word % 2) 1 odd) ∙ sym (ne_eqb (word % 2) 0
          (λ e. omega (arith, odd, e)))
      | inr ne ↦ ap not (ne_eqb (word % 2) 1 ne) ∙ sym (eq-eqb (word % 2) 0 (omega (arith, ne)))
    ]

numbered : (place : Place) → segment_of (number_of place) ≡ place.segment
numbered place = let a = place.page_below in let b = place.index_below in omega arith

-- a record that is held so
held_told : (freed : Bool) (st : Standing) (words : List ℕ)
    → record_told (record { generation = standing_generation st; life = held_life freed st words })
    ≡ standing_told st freed
held_told freed (Home g) words = refl
held_told true (Open g o) words = refl
held_told false (Open g o) words = refl

-- what is told of a segment where a worker holds it, and where nobody does
pub plain_held : (core : Core) (n w : ℕ) → worker_of (parts_of core) n ≡ Some w
    → plain_of (parts_of core) n
    ≡ option_map plain_from (segment_in plain_number (heap_of core w).segments n)
plain_held core n w e =
    ap (plain_by (parts_of core) n) e ∙ ap (find (is_of n)) (heap_told core w)
    ∙ found_told n (heap_of core w).segments

plain_pooled : (core : Core) (n : ℕ) → worker_of (parts_of core) n ≡ None
    → plain_of (parts_of core) n
    ≡ option_map plain_from (pool.segment_of plain_number core.pool n)
plain_pooled core n e =
    ap (plain_by (parts_of core) n) e
    ∙ ap (find (is_of n)) (sym (map-append plain_from core.pool.orphans core.pool.fresh))
    ∙ found_told n (core.pool.orphans ++ core.pool.fresh)

-- what a call tells of a segment that the pool has
pool_tells : {X : Type 0} (o : Option K) (f : K → X) (x : X)
    → ((k : K) × (o ≡ Some k) × (x ≡ f k)) → option_map f o ≡ Some x
pool_tells o f x there = ap (option_map f) there.1 ∙ ap Some (sym there.2)

-- where a segment stands, its place is told of
kept_by : (parts : Parts) (place : Place) (o : Option K) (st : Standing) (word : ℕ)
    → plain_of parts place.segment ≡ option_map plain_from o
    → option_map (λ (k : K). standing_at (plain_records k.slots) (slot_of place)) o ≡ Some st
    → option_map (λ (k : K). slice_index (plain_words k.slots) (slot_of place)) o ≡ Some word
    → IsKeptAt parts place st word
kept_by parts place None st word there a b = absurd (cc)
kept_by parts place (Some k) st word there a b = record {
  one = k;
  there = there;
  record_is = sym (same_Some (standing_at (plain_records k.slots) (slot_of place)) st a);
  word_is = sym (same_Some (slice_index (plain_words k.slots) (slot_of place)) word b);
}

-- a segment of the policy that no worker holds stands in the pool
some_of : (o : Option K) (one : Plain) → option_map plain_from o ≡ Some one
    → (k : K) × (o ≡ Some k)
some_of None one e = absurd (cc)
some_of (Some k) one e = (k, refl)

there : (parts : Parts) → AreSegmentsRight parts → (n : ℕ) → n < length parts.policy.segments
    → (o : Option K) → plain_of parts n ≡ option_map plain_from o → (k : K) × (o ≡ Some k)
there parts right n lt o e =
    let f = found parts right n lt in
    some_of o f.0.1 (sym e ∙ plain_found parts right n f.0 f.1)

-- the number of a place of the policy's
number_below : (place : Place) (segments : ℕ) → place.segment < segments
    → number_of place < segments * 8192
number_below place segments lt =
    let a = place.page_below in let b = place.index_below in omega (arith, lt)

-- what the machine knows of a place whose segment has this
pub record_is_told : (parts : Parts) → AreSegmentsRight parts → (place : Place)
    → place.segment < length parts.policy.segments → (st : Standing) (word : ℕ)
    → IsKeptAt parts place st word
    → standing_told st (word % 2 == 0) ≡ record_told (record_at (state_of parts) (number_of place))
record_is_told parts right place lt st word kept =
    let one = kept.one in
    let at = slot_of place in
    let a = place.page_below in
    let b = place.index_below in
    let f = found parts right place.segment lt in
    let same : f.0.1 ≡ plain_from one = same_Some f.0.1 (plain_from one)
    (sym (plain_found parts right place.segment f.0 f.1) ∙ kept.there) in
    let here : record_at (state_of parts) (number_of place) ≡ record_by (Some (plain_from one)) at =
    record_here parts right (number_of place) f.0
    (number_below place (length parts.policy.segments) lt)
    (ap (found_in parts) (numbered place) ∙ f.1)
    ∙ ap (λ (p : Plain). record_by (Some p) (number_of place % 8192)) same
    ∙ ap (record_by (Some (plain_from one))) (at_is place) in
    let fits = one.slots.fit at (omega arith) in
    let stand = standing_at (plain_records one.slots) at in
    let found = slice_index (plain_words one.slots) at in
    sym (ap record_told here
    ∙ held_told (not (slot_in found).live) stand (block_of (plain_from one).holding at)
    ∙ ap (standing_told stand) (freed_word found fits.0)
    ∙ ap (λ s. standing_told s (found % 2 == 0)) (sym kept.record_is)
    ∙ ap (λ (w : ℕ). standing_told st (w % 2 == 0)) (sym kept.word_is))

-- a segment of the policy is held by the worker that the table names
pub worker_is : (core : Core) (n : ℕ) → n < length core.policy.segments
    → worker_in (holder_at (state_in core) n) ≡ worker_of (parts_of core) n
worker_is core n lt =
    ap worker_in (holder_is (parts_of core) n lt) ∙ worker_by (worker_of (parts_of core) n) _

-- and one that nobody holds stands in the pool
module _ (a : Inside) (s : Core) (segment : ℕ) (view : core_of a ≡ s) (stored : IsStored a)
    (lt : segment < length s.policy.segments)
    (is : worker_in (holder_at (state_in s) segment) ≡ None) where
  pooled_in : plain_of (parts_of (core_of a)) segment
      ≡ option_map plain_from (pool.segment_of plain_number (core_of a).pool segment)
  pooled_in =
      let inside : segment < length (core_of a).policy.segments =
      subst (λ (x : Core). segment < length x.policy.segments) (sym view) lt in
      plain_pooled (core_of a) segment (sym (worker_is (core_of a) segment inside)
      ∙ ap (λ (x : Core). worker_in (holder_at (state_in x) segment)) view ∙ is)

  pub has_pooled : IsPooled plain_number a.pool segment
  has_pooled =
      there (parts_of (core_of a)) stored.kept.tidy.segments segment
      (subst (λ (x : Core). segment < length x.policy.segments) (sym view) lt)
      (pool.segment_of plain_number (core_of a).pool segment) pooled_in

  pub plain_in_pool : plain_of (parts_of s) segment
      ≡ option_map plain_from (pool.segment_of plain_number a.pool segment)
  plain_in_pool = ap (λ (x : Core). plain_of (parts_of x) segment) (sym view) ∙ pooled_in

-- so a place is told of by the holder's heap, else by the pool
module _ (a : Inside) (s : Core) (place : Place) (view : core_of a ≡ s) (stored : IsStored a)
    (lt : place.segment < length s.policy.segments) where
  pub told_held : (holder at : ℕ) (heap : Held PlainWords) (st : Standing) (word : ℕ)
      → worker_in (holder_at (state_in s) place.segment) ≡ Some holder → at ≡ holder
      → heap ≡ slice_index_or (boxed_slice_items a.heaps) at heap
      → option_map (λ (k : K). standing_at (plain_records k.slots) (slot_of place))
      (segment_in plain_number heap.segments place.segment) ≡ Some st
      → option_map (λ (k : K). slice_index (plain_words k.slots) (slot_of place))
      (segment_in plain_number heap.segments place.segment) ≡ Some word
      → IsKeptAt (parts_of s) place st word
  told_held holder at heap st word is same there standing found =
      let n = place.segment in
      kept_by (parts_of s) place (segment_in plain_number heap.segments n) st word
      (plain_held s n holder (sym (worker_is s n lt) ∙ is)
      ∙ ap (λ (h : Held PlainWords). option_map plain_from (segment_in plain_number h.segments n))
      (heap_is a s place view stored holder at heap is same there))
      standing found

  module _ (is : worker_in (holder_at (state_in s) place.segment) ≡ None) where
    abbrev core : Core
    core = core_of a

    pub is_pooled : IsPooled plain_number a.pool place.segment
    is_pooled = has_pooled a s place.segment view stored lt is

    pub told_pooled : (st : Standing) (word : ℕ)
        → pool.IsOf plain_number a.pool place.segment
        (λ one. (st ≡ standing_at (plain_records one.slots) (slot_of place))
        × (word ≡ slice_index (plain_words one.slots) (slot_of place)))
        → IsKeptAt (parts_of s) place st word
    told_pooled st word t =
        let o = pool.segment_of plain_number core.pool place.segment in
        subst (λ (x : Core). IsKeptAt (parts_of x) place st word) view
        (kept_by (parts_of core) place o st word
        (pooled_in a s place.segment view stored lt is)
        (pool_tells o (λ (k : K). standing_at (plain_records k.slots) (slot_of place)) st
        (t.0, t.1, t.2.0))
        (pool_tells o (λ (k : K). slice_index (plain_words k.slots) (slot_of place)) word
        (t.0, t.1, t.2.1)))

-- a place of a segment that the policy lacks
pub nothing_told : (s : Core) → IsKept s → (place : Place) → length s.policy.segments ≤ place.segment
    → record_told (record_at (state_in s) (number_of place)) ≡ record_told never_used
nothing_told s kept place past =
    ap record_told (record_past (parts_of s) kept.tidy.segments (number_of place)
    (omega (arith, past)))
