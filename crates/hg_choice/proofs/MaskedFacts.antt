-- A state with hidden words is the same for whatever reads no words.
use Rattle.std.proofs.Common.{◌≡◌, ℕ, ◌*◌, ◌==◌, ◌&&◌, ◌||◌, Bool, not, nat_lt, if◌then◌else◌, inl}
use Rattle.std.proofs.Common.{inr, length, get_or, map, Option, Some, None, sym, ap, ◌∙◌, arith}
use Rattle.std.proofs.Math.Path.{fun_ext}
use Rattle.std.specs.List.{list_any, list_all, range_with_len, sum_by}
use Rattle.std.proofs.lemmas.Bool.{cases_lt}
use Rattle.std.proofs.lemmas.List.{get_or_past}
use Rattle.std.proofs.lemmas.List.FromFn.{length-map-range_with_len, get_or-map-range_with_len}
use Rattle.hg_size.specs.Sizes.{places_of}
use Rattle.hg_place.specs.declared.Place.{Place}
use Rattle.hg_place.specs.declared.Right.{Right}
use Rattle.hg_place.specs.Places.{number_of, page_of, index_of, segment_of, segment_of_page}
use Rattle.hg_machine.specs.Policy.{Policy}
use Rattle.hg_machine.specs.Life.{Record, never_used, is_home, is_live, is_parted, owner_of}
use Rattle.hg_machine.specs.Life.{contents_of, bytes_of}
use Rattle.hg_machine.specs.State.{State, record_at, class_at, places_in}
use Rattle.hg_machine.specs.Holders.{holds, is_in_arena, is_number}
use Rattle.hg_machine.specs.Charge.{share, charge}
use Rattle.hg_machine.specs.Room.{suits, is_usable, is_open_to, has_open, is_room, has_room}
use Rattle.hg_machine.specs.Denial.{denial, denial_on, slot_at}
use Rattle.hg_machine.specs.Sweeps.{is_sent, is_sent_to, is_idle, cleared}
use Rattle.hg_choice.specs.Masks.{masked_life, masked_record, masked, is_hidden}
use Rattle.hg_choice.proofs.MaskedLives.{life_home, life_live, life_parted, life_owner, life_length}

module _ (hides : ℕ → ℕ → Bool) where
  -- a record with its hidden words masked
  abbrev pub mask : ℕ → Record → Record
  mask place r =
      record { generation = r.generation; life = masked_life hides (segment_of place) r.life }

  pub at_place : (s : State) (place : ℕ)
      → record_at (masked hides s) place ≡ mask place (record_at s place)
  at_place s place =
      elim (cases_lt place (length s.records)) as
      (λ _. get_or (map (masked_record hides s) (places_in s)) place never_used
      ≡ mask place (record_at s place)) [
        | inl below ↦
            get_or-map-range_with_len (masked_record hides s) 0 (length s.records) place place
            never_used below (omega arith)
        | inr past ↦
            get_or_past _ place never_used
            (let l = length-map-range_with_len (masked_record hides s) 0 (length s.records) in
            omega arith)
            ∙ sym (ap (mask place) (get_or_past s.records place never_used past))
      ]

  pub as_many : (s : State) → length (masked hides s).records ≡ length s.records
  as_many s = length-map-range_with_len (masked_record hides s) 0 (length s.records)

  pub same_places : (s : State) → places_in (masked hides s) ≡ places_in s
  same_places s = ap (range_with_len 0) (as_many s)

  pub same_generation : (s : State) (p : ℕ)
      → (record_at (masked hides s) p).generation ≡ (record_at s p).generation
  same_generation s p = ap (λ r. r.generation) (at_place s p)

  pub same_home : (s : State) (p : ℕ)
      → is_home (record_at (masked hides s) p).life ≡ is_home (record_at s p).life
  same_home s p =
      ap (λ r. is_home r.life) (at_place s p) ∙ life_home hides (segment_of p) (record_at s p).life

  pub same_live : (s : State) (p : ℕ)
      → is_live (record_at (masked hides s) p).life ≡ is_live (record_at s p).life
  same_live s p =
      ap (λ r. is_live r.life) (at_place s p) ∙ life_live hides (segment_of p) (record_at s p).life

  pub same_parted : (s : State) (p : ℕ)
      → is_parted (record_at (masked hides s) p).life ≡ is_parted (record_at s p).life
  same_parted s p = ap (λ r. is_parted r.life) (at_place s p)
      ∙ life_parted hides (segment_of p) (record_at s p).life

  pub same_owner : (s : State) (p : ℕ)
      → owner_of (record_at (masked hides s) p).life ≡ owner_of (record_at s p).life
  same_owner s p = ap (λ r. owner_of r.life) (at_place s p)
      ∙ life_owner hides (segment_of p) (record_at s p).life

  pub same_length : (s : State) (p : ℕ)
      → length (contents_of (record_at (masked hides s) p).life)
      ≡ length (contents_of (record_at s p).life)
  same_length s p = ap (λ r. length (contents_of r.life)) (at_place s p)
      ∙ life_length hides (segment_of p) (record_at s p).life

  pub same_bytes : (s : State) (p : ℕ)
      → bytes_of (record_at (masked hides s) p).life ≡ bytes_of (record_at s p).life
  same_bytes s p = ap (λ n. 8 * n) (same_length s p)

  pub same_hidden : (s : State) (p : ℕ) → is_hidden hides (masked hides s) p ≡ is_hidden hides s p
  same_hidden s p = ap (hides (segment_of p)) (same_owner s p)

  -- room
  abbrev usable_as : Policy → ℕ → ℕ → Bool → ℕ → Bool
  usable_as policy size place free generation =
      nat_lt (index_of place) (places_of size)
      && (free && not (free && generation == policy.max_generation))

  pub same_usable : (s : State) (size : ℕ) → is_usable (masked hides s) size ≡ is_usable s size
  same_usable s size = fun_ext λ p.
      ap (λ free. usable_as s.policy size p free (record_at (masked hides s) p).generation)
      (same_home s p)
      ∙ ap (usable_as s.policy size p (is_home (record_at s p).life)) (same_generation s p)

  pub same_open : (s : State) (w arena size : ℕ) (wanted : Option ℕ)
      → is_open_to (masked hides s) w arena size wanted ≡ is_open_to s w arena size wanted
  same_open s w arena size wanted = fun_ext λ p.
      ap (λ usable. holds s w (segment_of p)
      && (is_in_arena s arena (segment_of p)
      && (suits (class_at s) size wanted (page_of p) && usable p))) (same_usable s size)

  pub same_has_open : (s : State) (w arena size : ℕ) (wanted : Option ℕ)
      → has_open (masked hides s) w arena size wanted ≡ has_open s w arena size wanted
  same_has_open s w arena size wanted =
      ap (λ f. list_any f (places_in (masked hides s))) (same_open s w arena size wanted)
      ∙ ap (list_any (is_open_to s w arena size wanted)) (same_places s)

  pub same_room : (s : State) (w arena size p : ℕ)
      → is_room (masked hides s) w arena size p ≡ is_room s w arena size p
  same_room s w arena size p =
      ap (λ f. f p || (not (has_open (masked hides s) w arena size (Some size))
      && is_open_to (masked hides s) w arena size None p)) (same_open s w arena size (Some size))
      ∙ ap (λ b. is_open_to s w arena size (Some size) p
      || (not b && is_open_to (masked hides s) w arena size None p))
      (same_has_open s w arena size (Some size))
      ∙ ap (λ f. is_open_to s w arena size (Some size) p
      || (not (has_open s w arena size (Some size)) && f p)) (same_open s w arena size None)

  pub same_has_room : (s : State) (w arena size : ℕ)
      → has_room (masked hides s) w arena size ≡ has_room s w arena size
  same_has_room s w arena size =
      ap (λ b. b || has_open (masked hides s) w arena size None)
      (same_has_open s w arena size (Some size))
      ∙ ap (λ b. has_open s w arena size (Some size) || b) (same_has_open s w arena size None)

  -- charge
  abbrev share_as : Bool → ℕ → Bool → ℕ → ℕ → ℕ
  share_as b tenant free owner bytes = if b && (not free && owner == tenant) then bytes else 0

  pub same_share : (s : State) (w tenant : ℕ) → share (masked hides s) w tenant ≡ share s w tenant
  same_share s w tenant = fun_ext λ p.
      let b = holds s w (segment_of p) in
      let r = record_at (masked hides s) p in
      let q = record_at s p in
      ap (λ free. share_as b tenant free (owner_of r.life) (bytes_of r.life)) (same_home s p)
      ∙ ap (λ owner. share_as b tenant (is_home q.life) owner (bytes_of r.life)) (same_owner s p)
      ∙ ap (share_as b tenant (is_home q.life) (owner_of q.life)) (same_bytes s p)

  pub same_charge : (s : State) (w tenant : ℕ)
      → charge (masked hides s) w tenant ≡ charge s w tenant
  same_charge s w tenant =
      ap (λ f. sum_by f (places_in (masked hides s))) (same_share s w tenant)
      ∙ ap (sum_by (share s w tenant)) (same_places s)

  -- verdicts
  pub same_slot : (s : State) (p : ℕ) → slot_at (masked hides s) p ≡ slot_at s p
  same_slot s p =
      let r = record_at (masked hides s) p in
      let q = record_at s p in
      ap (λ g. record { generation = g; owner = owner_of r.life; live = is_live r.life })
      (same_generation s p)
      ∙ ap (λ o. record { generation = q.generation; owner = o; live = is_live r.life })
      (same_owner s p)
      ∙ ap (λ l. record { generation = q.generation; owner = owner_of q.life; live = l })
      (same_live s p)

  pub same_denial : (s : State) (actor : ℕ) (right : Right) (place : Place) (expected : ℕ)
      → denial (masked hides s) actor right place expected ≡ denial s actor right place expected
  same_denial s actor right place expected =
      ap (denial_on s.policy actor right place.segment expected) (same_slot s (number_of place))

  -- sweeps
  pub same_sent : (s : State) → is_sent (masked hides s) ≡ is_sent s
  same_sent s = fun_ext λ p. ap (λ b. b && not (list_any (is_number p) s.hands)) (same_parted s p)

  pub same_sent_to : (s : State) (segment : ℕ)
      → is_sent_to (masked hides s) segment ≡ is_sent_to s segment
  same_sent_to s segment = fun_ext λ p. ap (λ f. segment_of p == segment && f p) (same_sent s)

  pub same_idle : (s : State) → is_idle (masked hides s) ≡ is_idle s
  same_idle s = fun_ext λ page.
      let home_of : (λ p. is_home (record_at (masked hides s) p).life)
      ≡ (λ p. is_home (record_at s p).life) = fun_ext (same_home s) in
      ap (λ f. list_all f (range_with_len (page * 512) 512)) home_of

  pub same_cleared : (s : State) (w : ℕ) → cleared (masked hides s) w ≡ cleared s w
  same_cleared s w =
      fun_ext λ page. ap (λ f. if holds s w (segment_of_page page)
      && f page then None else class_at s page) (same_idle s)
