-- An allocation is charged to its owner alone.
use Rattle.std.proofs.Common.{◌≡◌, ◌≢◌, ℕ, ◌/◌, ◌%◌, ◌<◌, inl, inr, true, false}
use Rattle.std.proofs.Common.{if◌then◌else◌, List, length, Option, None, Some, Contains, refl, sym, ap, subst, ◌∙◌}
use Rattle.std.proofs.Common.{arith}
use Rattle.std.specs.List.{range_with_len, sum_by}
use Rattle.std.proofs.lemmas.Bool.{cases_eq, ne_eqb}
use Rattle.hg_place.specs.declared.Handle.{Handle}
use Rattle.hg_place.specs.declared.standing.Standing.{Standing}
use Rattle.hg_place.specs.declared.standing.Standing.TheVariants.{Home, Open}
use Rattle.hg_place.specs.Standings.{is_home, slot_of, standing_at}
use Rattle.hg_segment.specs.Charges.{block_bytes, share, share_of}
use Rattle.hg_segment.specs.Kept.{Kept, class_at, slot}
use Rattle.hg_segment.specs.Right.{IsBlockPlace}
use Rattle.hg_segment.proofs.Charged.{share_home}
use Rattle.hg_segment.proofs.Sums.{sum_same}
use Rattle.hg_heap.specs.Allotted.{IsAllotted}
use Rattle.hg_heap.specs.Charges.{charge_in}
use Rattle.hg_heap.specs.Settled.{IsSettled}
use Rattle.hg_heap.proofs.ChargeChanged.{charge_same}
use Rattle.hg_heap.proofs.Founds.{Contains-get}
use Rattle.hg_table.specs.declared.segment.UnnamedSegment.{UnnamedSegment}
use Rattle.hg_worker.specs.Charged.{AreKept}
use Rattle.hg_worker.specs.Seats.{number_in, records_in, seat_shows, seat_steps}
use Rattle.hg_bank_service.proofs.Lists.{here_set}

-- a block place is on a page with a class
class_there : (o : Option ℕ) (index : ℕ) → IsBlockPlace o index → (size : ℕ) × (o ≡ Some size)
class_there None index is = absurd is
class_there (Some size) index is = (size, refl)

not_owner : (g owner bytes tenant : ℕ) → tenant ≢ owner → share_of (Open g owner) bytes tenant ≡ 0
not_owner g owner bytes tenant apart =
    ap (λ b. if b then bytes else 0) (ne_eqb owner tenant (λ same. apart (sym same)))

module _ {size owner : ℕ} {handle : Handle} {old new : List (Kept UnnamedSegment)}
    (allotted : IsAllotted number_in records_in seat_shows seat_steps size owner handle old new)
    (was_kept : AreKept old) (is_kept : AreKept new) where
  abbrev one : Kept UnnamedSegment
  one = allotted.stepped.before

  abbrev last : Kept UnnamedSegment
  last = allotted.stepped.after

  one_settled : IsSettled records_in one
  one_settled = was_kept.each one (Contains-get old allotted.stepped.found one allotted.stepped.at)

  last_settled : IsSettled records_in last
  last_settled =
      is_kept.each last
      (subst (λ (segments : List (Kept UnnamedSegment)). Contains segments last)
      (sym allotted.stepped.now)
      (Contains-get _ allotted.stepped.found last
      (here_set old allotted.stepped.found one last allotted.stepped.at)))

  -- the class of the page of another open place is as it was
  class_same : (at : ℕ) → at < 8192 → at ≢ slot_of handle.place
      → is_home (standing_at (records_in one.slots) at) ≡ false
      → class_at last.classes (at / 512) ≡ class_at one.classes (at / 512)
  class_same at low apart away =
      let g = allotted.given in
      elim (cases_eq (at / 512) handle.place.page) [
        | inr other ↦ g.classes (at / 512) other
        | inl same ↦
            (let page : at / 512 < 16 = omega (arith, low) in
            let index : at % 512 < 512 = omega arith in
            let whole : slot (at / 512) (at % 512) ≡ at = omega arith in
            let was_open : is_home (standing_at (records_in one.slots)
            (slot (at / 512) (at % 512))) ≡ false =
            ap (λ n. is_home (standing_at (records_in one.slots) n)) whole ∙ away in
            let is_open : is_home (standing_at (records_in last.slots)
            (slot (at / 512) (at % 512))) ≡ false =
            ap (λ n. is_home (standing_at (records_in last.slots) n)) whole
            ∙ ap is_home (g.standings at low apart) ∙ away in
            let had = class_there (class_at one.classes (at / 512)) (at % 512)
            (one_settled.opened (at / 512) (at % 512) page index was_open) in
            let has : class_at last.classes (at / 512) ≡ Some size =
            ap (class_at last.classes) same ∙ g.class in
            let before = one_settled.blocks (at / 512) (at % 512) had.0 page index was_open had.1 in
            let after = last_settled.blocks (at / 512) (at % 512) size page index is_open has in
            let kept = g.blocks (at / 512) (at % 512) page index
            (λ here. apart (sym whole ∙ here)) is_open in
            let sizes : size ≡ had.0 = sym after ∙ ap length kept ∙ before in
            has ∙ ap Some sizes ∙ sym had.1)
      ]

  share_by : (tenant at : ℕ) (st : Standing) → standing_at (records_in one.slots) at ≡ st
      → standing_at (records_in last.slots) at ≡ st
      → (is_home st ≡ false
      → class_at last.classes (at / 512) ≡ class_at one.classes (at / 512))
      → share (records_in last.slots) last.classes tenant at
      ≡ share (records_in one.slots) one.classes tenant at
  share_by tenant at (Home g) was is same =
      ap (λ s. share_of s (block_bytes (class_at last.classes (at / 512))) tenant) is
      ∙ sym (ap (λ s. share_of s (block_bytes (class_at one.classes (at / 512))) tenant) was)
  share_by tenant at (Open g o) was is same =
      ap (λ s. share_of s (block_bytes (class_at last.classes (at / 512))) tenant) is
      ∙ ap (λ c. share_of (Open g o) (block_bytes c) tenant) (same refl)
      ∙ sym (ap (λ s. share_of s (block_bytes (class_at one.classes (at / 512))) tenant) was)

  share_same : (tenant : ℕ) → tenant ≢ owner → (at : ℕ) → at < 8192
      → share (records_in last.slots) last.classes tenant at
      ≡ share (records_in one.slots) one.classes tenant at
  share_same tenant apart at low =
      let g = allotted.given in
      elim (cases_eq at (slot_of handle.place)) [
        | inl here ↦
            (let last_bytes = block_bytes (class_at last.classes (at / 512)) in
            let one_bytes = block_bytes (class_at one.classes (at / 512)) in
            let is : standing_at (records_in last.slots) at ≡ Open handle.generation owner =
            ap (standing_at (records_in last.slots)) here ∙ g.standing in
            let was : is_home (standing_at (records_in one.slots) at) ≡ true =
            ap (λ n. is_home (standing_at (records_in one.slots) n)) here
            ∙ ap is_home allotted.home in
            ap (λ s. share_of s last_bytes tenant) is
            ∙ not_owner handle.generation owner last_bytes tenant apart
            ∙ sym (share_home (standing_at (records_in one.slots) at) one_bytes tenant was))
        | inr away ↦
            share_by tenant at (standing_at (records_in one.slots) at) refl
            (g.standings at low away) (class_same at low away)
      ]

  pub others_uncharged : (tenant : ℕ) → tenant ≢ owner
      → charge_in records_in new tenant ≡ charge_in records_in old tenant
  others_uncharged tenant apart =
      ap (λ segments. charge_in records_in segments tenant) allotted.stepped.now
      ∙ charge_same records_in old allotted.stepped.found one last tenant allotted.stepped.at
      (go (length (records_in last.slots)) (length (records_in one.slots)) last.slots.sized
      one.slots.sized)
    where
      go : (m n : ℕ) → m ≡ 8192 → n ≡ 8192
          → sum_by (share (records_in last.slots) last.classes tenant) (range_with_len 0 m)
          ≡ sum_by (share (records_in one.slots) one.classes tenant) (range_with_len 0 n)
      go m n long wide =
          ap (λ k. sum_by (share (records_in last.slots) last.classes tenant)
          (range_with_len 0 k)) (long ∙ sym wide)
          ∙ sum_same (share (records_in last.slots) last.classes tenant)
          (share (records_in one.slots) one.classes tenant) n
          (λ k low. share_same tenant apart k (omega (arith, low, wide)))
