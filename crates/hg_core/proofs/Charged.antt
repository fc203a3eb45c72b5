-- What counts against a tenant's limit with a worker is what its heap tells.
use Rattle.std.proofs.Common.{◌≡◌, ℕ, ◌/◌, ◌==◌, ◌<◌, ◌≤◌, ◌&&◌, Bool, false, not, cond, List, []}
use Rattle.std.proofs.Common.{◌∷◌, map, length, slice_index_or, Contains, None, inl, inr, refl, sym}
use Rattle.std.proofs.Common.{ap, subst, ◌∙◌, arith}
use Rattle.std.specs.Box.{boxed_slice_items}
use Rattle.std.proofs.lemmas.Bool.{cases_lt, ne_eqb}
use Rattle.std.proofs.lemmas.List.Sums.{sum_by-cons}
use Rattle.hg_lists.specs.Repeats.{HasNoRepeats}
use Rattle.hg_place.specs.declared.plain.PlainWords.{PlainWords}
use Rattle.hg_place.specs.declared.standing.Standing.{Standing}
use Rattle.hg_place.specs.declared.standing.Standing.TheVariants.{Home, Open}
use Rattle.hg_place.specs.Places.{segment_of}
use Rattle.hg_place.specs.Plain.{plain_records}
use Rattle.hg_place.specs.Sane.{sane}
use Rattle.hg_place.specs.Standings.{standing_at, is_home, standing_owner}
use Rattle.hg_segment.specs.Charges.{block_bytes, share_of, share, charge_of}
use Rattle.hg_segment.specs.Kept.{Kept, class_at}
use Rattle.hg_segment.specs.Parted.{plain_number}
use Rattle.hg_segment.proofs.Sums.{sum_zero}
use Rattle.hg_heap.specs.Charges.{charge_in}
use Rattle.hg_heap.specs.Held.{Held}
use Rattle.hg_heap.specs.Settled.{IsSettled}
use Rattle.hg_heap.specs.Ties.{heap_view}
use Rattle.hg_heap.proofs.ViewCharges.{view_charge}
use Rattle.hg_machine.specs.Charge.{charge}
use Rattle.hg_machine.specs.Holders.{is_held_by}
use Rattle.hg_machine.specs.Life.{is_home as is_life_home, owner_of, bytes_of}
use Rattle.hg_machine.specs.State.{State, Holder, fresh, orphan, held, holder_at, record_at}
use Rattle.hg_machine.specs.Soundness.{IsSound}
use Rattle.hg_agreement.proofs.Rooms.{same_charge}
use Rattle.hg_parts.proofs.Sound.{tidy_sound}
use Rattle.hg_events.specs.Core.{Core, parts_of, heap_of}
use Rattle.hg_chosen.proofs.HeapTold.{agrees, policed}
use Rattle.hg_core.specs.declared.stores.Stores.TheInside.{Inside}
use Rattle.hg_core.specs.Keeping.{state_in, IsKept}
use Rattle.hg_core.specs.Stored.{core_of, IsStored}
use Rattle.hg_core.proofs.After.{heap_read, heap_below}
use Rattle.hg_machine.specs.Charge as machine

-- no place has an owner whose number no tenant may have
module _ (tenant : ℕ) (past : 64 ≤ tenant) where
  none_owned : (s : Standing) (bytes : ℕ) → (is_home s ≡ false → standing_owner s < 64)
      → share_of s bytes tenant ≡ 0
  none_owned (Home g) bytes low = refl
  none_owned (Open g owner) bytes low =
      ap (λ (b : Bool). cond b bytes 0)
      (ne_eqb owner tenant (λ e. let below = low refl in omega (arith, past, e)))

  none_charged : (segments : List (Kept PlainWords))
      → charge_in plain_records segments tenant ≡ 0
  none_charged [] = refl
  none_charged (k ∷ rest) =
      let records = plain_records k.slots in
      let none : charge_of records k.classes tenant ≡ 0 =
      sum_zero (share records k.classes tenant) (length records)
      (λ at lt.
      let below : at < 8192 = omega (arith, lt, k.slots.all_records) in
      none_owned (standing_at records at) (block_bytes (class_at k.classes (at / 512)))
      (sane (standing_at records at) _ (k.slots.fit at below).0 (k.slots.fit at below).1).owner) in
      omega (
        arith,
        sum_by-cons (λ (one : Kept PlainWords). charge_of (plain_records one.slots) one.classes
            tenant) k rest,
        none,
        none_charged rest,
      )

-- so what a heap tells, of a tenant and of other numbers, is what its segments' places count
heap_told : (segments : List (Kept PlainWords)) (tenant told : ℕ)
    → (tenant < 64 → told ≡ charge_in plain_records segments tenant)
    → (¬ tenant < 64 → told ≡ 0) → told ≡ charge_in plain_records segments tenant
heap_told segments tenant told counted nobody =
    elim (cases_lt tenant 64) [
      | inl lt ↦ counted lt
      | inr ge ↦
          nobody (λ lt. omega (arith, lt, ge)) ∙ sym (none_charged tenant ge segments)
    ]

-- a worker that the policy lacks holds nothing
unheld : (h : Holder) (worker workers : ℕ) → ((w : ℕ) → h ≡ held w → w < workers)
    → workers ≤ worker → is_held_by worker h ≡ false
unheld fresh worker workers below past = refl
unheld orphan worker workers below past = refl
unheld (held w) worker workers below past =
    ne_eqb w worker (λ e. let low = below w refl in omega (arith, low, e, past))

no_charge : (s : State) (worker tenant : ℕ) → IsSound s → s.policy.workers ≤ worker
    → charge s worker tenant ≡ 0
no_charge s worker tenant sound past =
    sum_zero (machine.share s worker tenant) (length s.records)
    (λ place lt.
    let life = (record_at s place).life in
    ap
    (λ (b : Bool). cond (b && (not (is_life_home life) && owner_of life == tenant)) (bytes_of life)
    0)
    (unheld (holder_at s (segment_of place)) worker s.policy.workers
    (sound.workers (segment_of place)) past))

-- and is charged nothing; one of the policy's is charged what its heap tells
module _ (a : Inside) (s : Core) (worker tenant : ℕ) (view : core_of a ≡ s) (stored : IsStored a)
  where
    pub none_told : a.policy.workers ≤ worker → 0 ≡ charge (state_in s) worker tenant
    none_told past =
        let core = core_of a in
        sym (no_charge (state_in core) worker tenant
        (tidy_sound (parts_of core) stored.kept.policy stored.kept.tidy).0 past)
        ∙ ap (λ x. charge (state_in x) worker tenant) view

    pub charge_told : (at told : ℕ) (heap : Held PlainWords) → worker < a.policy.workers
        → at ≡ worker → heap ≡ slice_index_or (boxed_slice_items a.heaps) at heap
        → ((k : Kept PlainWords) → Contains heap.segments k → IsSettled plain_records k)
        → HasNoRepeats (map (λ (k : Kept PlainWords). plain_number k.slots) heap.segments)
        → (tenant < 64 → told ≡ charge_in plain_records heap.segments tenant)
        → (¬ tenant < 64 → told ≡ 0) → told ≡ charge (state_in s) worker tenant
    charge_told at told heap below same there settled once counted nobody =
        let core = core_of a in
        let kept : IsKept core = stored.kept in
        let inside = heap_below core worker kept.tidy below in
        let is : heap_of core worker ≡ heap =
        heap_read core at worker heap kept.tidy below same there in
        let segments = (heap_of core worker).segments in
        let in_hand = slice_index_or core.hands worker None in
        heap_told heap.segments tenant told counted nobody
        ∙ ap (λ h. charge_in plain_records h.segments tenant) (sym is)
        ∙ sym (view_charge plain_number plain_records (λ s. s.all_records) core.policy worker
        in_hand 0 segments tenant
        (subst (λ h. HasNoRepeats (map (λ (k : Kept PlainWords). plain_number k.slots) h.segments))
        (sym is) once)
        (subst (λ h. (k : Kept PlainWords) → Contains h.segments k → IsSettled plain_records k)
        (sym is) settled)
        (policed core worker kept.policy kept.tidy inside))
        ∙ sym (same_charge (state_in core) (heap_view plain_number plain_records core.policy worker
        in_hand 0 segments) None tenant (agrees core worker kept.policy kept.tidy inside))
        ∙ ap (λ x. charge (state_in x) worker tenant) view
