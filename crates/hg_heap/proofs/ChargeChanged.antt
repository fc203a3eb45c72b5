-- What tenants are charged, where one segment has changed.
use Rattle.std.proofs.Common.{◌≡◌, ◌≢◌, ℕ, ◌+◌, ◌-◌, ◌*◌, ◌/◌, ◌<◌, ◌≤◌, true, inl}
use Rattle.std.proofs.Common.{inr, List, length}
use Rattle.std.proofs.Common.{refl, slice_index, slice_get, slice_set, Option, Some, None, sym}
use Rattle.std.proofs.Common.{ap, ◌∙◌, arith}
use Rattle.std.proofs.Common.{get_or-set_other, get_or-set_same, get_or}
use Rattle.std.specs.Prelude.{Contains, is_some}
use Rattle.std.specs.List.{sum_by}
use Rattle.std.proofs.lemmas.Bool.{cases_eq}
use Rattle.std.proofs.lemmas.Option.{get_or_from_slice_get}
use Rattle.std.proofs.lemmas.List.Sums.{sum_by-set, sum_by-le, count_by-le-length}
use Rattle.std.proofs.lemmas.List.Elements.{All-contains_itself, All-weaker}
use Rattle.hg_place.specs.declared.geometry.TheConstants.{MAX_SEGMENTS, SEGMENT_PLACES}
use Rattle.hg_place.specs.declared.geometry.TheConstants.{PAGE_PLACES}
use Rattle.hg_place.specs.declared.standing.Standing.{Standing}
use Rattle.hg_place.specs.declared.standing.Standing.TheVariants.{Home, Open}
use Rattle.hg_place.specs.Standings.{standing_at, is_home}
use Rattle.hg_lists.proofs.RepeatsLemmas.{nat_eq-same, nat_eq-other}
use Rattle.hg_size.specs.Sizes.{sizes}
use Rattle.hg_size.proofs.Table.{size_bounds}
use Rattle.hg_segment.specs.declared.charges.TheConstants.{TENANTS}
use Rattle.hg_segment.specs.Kept.{Kept, class_at}
use Rattle.hg_segment.specs.Charges.{block_bytes, share_of, share, charge_of}
use Rattle.hg_segment.proofs.Charged.{charge_set, charge_small, share_home}
use Rattle.hg_heap.specs.Charges.{charge_in}
use Rattle.hg_heap.specs.Settled.{IsSettled}
use Rattle.hg_heap.specs.Table.{IsTabled}
use Rattle.hg_heap.proofs.Founds.{inside_of}

module _ {S : Type 0} (records : S → List Standing) where
  -- one segment adds what it does now in place of what it did
  pub charge_changed : (old : List (Kept S)) (found : ℕ) (one after : Kept S) (tenant : ℕ)
      → slice_get old found ≡ Some one
      → charge_in records (slice_set old found after) tenant + charge_of
      (records one.slots) one.classes tenant
      ≡ charge_in records old tenant + charge_of (records after.slots) after.classes tenant
  charge_changed old found one after tenant at =
      let f = λ (k : Kept S). charge_of (records k.slots) k.classes tenant in
      let was : f (get_or old found one) ≡ f one =
      ap f (get_or_from_slice_get old found one one at) in
      let all : sum_by f (slice_set old found after) + f (get_or old found one)
      ≡ sum_by f old + f after =
      sum_by-set f old found after one (inside_of old found one at) in
      omega (arith, all, was)

  -- a segment that adds what it did leaves the charge
  pub charge_same : (old : List (Kept S)) (found : ℕ) (one after : Kept S) (tenant : ℕ)
      → slice_get old found ≡ Some one
      → charge_of (records after.slots) after.classes tenant
      ≡ charge_of (records one.slots) one.classes tenant
      → charge_in records (slice_set old found after) tenant ≡ charge_in records old tenant
  charge_same old found one after tenant at e =
      omega (arith, charge_changed old found one after tenant at, e)

  -- the record of one place of one segment is another
  pub record PlaceChange (old : List (Kept S)) (found : ℕ) (one after : Kept S) (at bytes : ℕ)
      (now : Standing) : Type 0 where
    pub there : slice_get old found ≡ Some one
    pub inside : at < length (records one.slots)
    pub classes : after.classes ≡ one.classes
    pub standings : records after.slots ≡ slice_set (records one.slots) at now
    pub class : block_bytes (class_at one.classes (at / PAGE_PLACES)) ≡ bytes

  module _ (old : List (Kept S)) (found : ℕ) (one after : Kept S) (at bytes : ℕ) (now : Standing)
      (h : PlaceChange old found one after at bytes now) where
    -- what it adds now in place of what it did
    pub share_changed : (tenant : ℕ)
        → charge_in records (slice_set old found after) tenant + share_of
        (standing_at (records one.slots) at) bytes tenant
        ≡ charge_in records old tenant + share_of now bytes tenant
    share_changed tenant =
        let all = charge_changed old found one after tenant h.there in
        let set = charge_set (records one.slots) one.classes tenant at now h.inside in
        let is : charge_of (records after.slots) after.classes tenant
        ≡ charge_of (slice_set (records one.slots) at now) one.classes tenant =
        ap (λ (rs : List Standing). charge_of rs after.classes tenant) h.standings
        ∙ ap (λ (cs : List (Option ℕ)). charge_of
        (slice_set (records one.slots) at now) cs tenant) h.classes in
        let before : share (records one.slots) one.classes tenant at
        ≡ share_of (standing_at (records one.slots) at) bytes tenant =
        ap (λ (b : ℕ). share_of (standing_at (records one.slots) at) b tenant) h.class in
        let after : share_of now (block_bytes (class_at one.classes (at / PAGE_PLACES))) tenant
        ≡ share_of now bytes tenant =
        ap (λ (b : ℕ). share_of now b tenant) h.class in
        omega (arith, all, set, is, before, after)

  own_share : (g owner bytes tenant : ℕ) → tenant ≡ owner
      → share_of (Open g owner) bytes tenant ≡ bytes
  own_share g owner bytes tenant e = rw (e, nat_eq-same owner) refl

  other_share : (g owner bytes tenant : ℕ) → tenant ≢ owner
      → share_of (Open g owner) bytes tenant ≡ 0
  other_share g owner bytes tenant ne = rw (nat_eq-other owner tenant (λ s. ne (sym s))) refl

  module _ (old : List (Kept S)) (found : ℕ) (one after : Kept S) (at bytes owner : ℕ)
      (charges : List ℕ)
      (all : length charges ≡ TENANTS) (low : owner < TENANTS)
      (counted : (tenant : ℕ) → tenant < TENANTS
      → slice_index charges tenant ≡ charge_in records old tenant) where
    -- a place that was home is open
    pub charge_raised : (g : ℕ) → PlaceChange old found one after at bytes (Open g owner)
        → is_home (standing_at (records one.slots) at) ≡ true
        → (tenant : ℕ) → tenant < TENANTS
        → slice_index (slice_set charges owner (slice_index charges owner + bytes)) tenant
        ≡ charge_in records (slice_set old found after) tenant
    charge_raised g h home tenant below =
        let was = share_home (standing_at (records one.slots) at) bytes tenant home in
        let more = share_changed old found one after at bytes (Open g owner) h tenant in
        elim (cases_eq tenant owner) [
          | inl e ↦ (let is = own_share g owner bytes tenant e in
              let new : slice_index (slice_set charges owner (slice_index charges owner + bytes))
              tenant ≡ slice_index charges owner + bytes =
              rw e (get_or-set_same charges owner (slice_index charges owner + bytes) 0
              (omega (arith, all, low))) in
              let before : slice_index charges owner ≡ charge_in records old tenant =
              rw (← e) (counted tenant below) in
              omega (arith, was, more, is, new, before))
          | inr ne ↦ (let is = other_share g owner bytes tenant ne in
              let new : slice_index (slice_set charges owner (slice_index charges owner + bytes))
              tenant ≡ slice_index charges tenant =
              get_or-set_other charges owner tenant (slice_index charges owner + bytes) 0 ne in
              omega (arith, was, more, is, new, counted tenant below))
        ]

    module _ (g n : ℕ) (h : PlaceChange old found one after at bytes (Home n))
        (was : standing_at (records one.slots) at ≡ Open g owner) where
      less : (tenant : ℕ) → charge_in records (slice_set old found after) tenant + share_of
          (Open g owner) bytes tenant ≡ charge_in records old tenant
      less tenant = omega (
        arith,
        share_changed old found one after at bytes (Home n) h tenant,
        ap (λ (st : Standing). share_of st bytes tenant) was,
      )

      -- the bytes of an open place are part of its owner's charge
      pub charge_covers : bytes ≤ slice_index charges owner
      charge_covers = omega (
        arith,
        less owner,
        own_share g owner bytes owner refl,
        counted owner
            low,
      )

      -- it is home
      pub charge_lowered : (tenant : ℕ) → tenant < TENANTS
          → slice_index (slice_set charges owner (slice_index charges owner - bytes)) tenant
          ≡ charge_in records (slice_set old found after) tenant
      charge_lowered tenant below = elim (cases_eq tenant owner) [
        | inl e ↦ (let is = own_share g owner bytes tenant e in
            let new : slice_index (slice_set charges owner (slice_index charges owner - bytes))
            tenant ≡ slice_index charges owner - bytes =
            rw e (get_or-set_same charges owner (slice_index charges owner - bytes) 0
            (omega (arith, all, low))) in
            let before : slice_index charges owner ≡ charge_in records old tenant =
            rw (← e) (counted tenant below) in
            omega (arith, less tenant, is, new, before))
        | inr ne ↦ (let is = other_share g owner bytes tenant ne in
            let new : slice_index (slice_set charges owner (slice_index charges owner - bytes))
            tenant ≡ slice_index charges tenant =
            get_or-set_other charges owner tenant (slice_index charges owner - bytes) 0 ne in
            omega (arith, less tenant, is, new, counted tenant below))
      ]

  -- no class has blocks of more bytes than a page
  bytes_small : (class : Option ℕ) → ((size : ℕ) → class ≡ Some size → Contains sizes size)
      → block_bytes class ≤ 65536
  bytes_small None listed = omega arith
  bytes_small (Some size) listed = let b =
      (size_bounds size (listed size refl)).1 in omega (arith, b)

  charge_of_small : (k : Kept S) (tenant : ℕ) → length (records k.slots) ≡ SEGMENT_PLACES
      → IsSettled records k
      → charge_of (records k.slots) k.classes tenant ≤ SEGMENT_PLACES * 65536
  charge_of_small k tenant sized settled =
      let c = charge_small (records k.slots) k.classes tenant
      (λ page. bytes_small (class_at k.classes page) (settled.sizes page)) in
      omega (arith, c, sized)

  -- no charge is above the bytes of all places, so one may be raised by those of a block
  pub charge_room : (number : S → ℕ) (table : List (Option ℕ)) (segments : List (Kept S))
      (tenant : ℕ)
      → ((s : S) → length (records s) ≡ SEGMENT_PLACES) → IsTabled number table segments
      → ((k : Kept S) → Contains segments k → IsSettled records k)
      → charge_in records segments tenant ≤ MAX_SEGMENTS * (SEGMENT_PLACES * 65536)
  charge_room number table segments tenant sized t settled =
      let many : length segments ≤ 64 =
      omega (arith, t.all, t.many, count_by-le-length is_some table) in
      let c = sum_by-le (λ (k : Kept S). charge_of (records k.slots) k.classes tenant)
      (SEGMENT_PLACES * 65536) segments
      (All-weaker (Contains segments)
      (λ (k : Kept S). charge_of (records k.slots) k.classes tenant ≤ SEGMENT_PLACES * 65536)
      (λ k there. charge_of_small k tenant (sized k.slots) (settled k there)) segments
      (All-contains_itself segments)) in
      omega (arith, many, c)
