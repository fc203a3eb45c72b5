-- What a step does to a charge.
use Rattle.std.proofs.Common.{◌≡◌, ◌≢◌, ◌⊎◌, inl, inr, ℕ, ◌+◌, ◌*◌, ◌==◌, ◌&&◌, ◌<◌, ◌≤◌, Bool}
use Rattle.std.proofs.Common.{true, false, not, cond, if◌then◌else◌, List, [], ◌∷◌, length, get_or}
use Rattle.std.proofs.Common.{set, map, replicate, Option, Some, None, unwrap_or, nat_le, refl, sym}
use Rattle.std.proofs.Common.{ap, subst, ◌∙◌, arith, suc}
use Rattle.std.specs.List.{range_with_len, sum_by}
use Rattle.std.proofs.lemmas.Bool.{cases_eq, eq-eqb, ne_eqb}
use Rattle.std.proofs.lemmas.Bool.{and_left, and_right, leb-true}
use Rattle.std.proofs.lemmas.List.{length-set, get_or-set_other, length-replicate}
use Rattle.std.proofs.lemmas.List.FromFn.{length-map-range_with_len}
use Rattle.std.proofs.lemmas.Grind.{get_or-set_at}
use Rattle.hg_size.specs.Sizes.{size_for}
use Rattle.hg_place.specs.declared.Handle.{Handle}
use Rattle.hg_place.specs.Places.{number_of, segment_of}
use Rattle.hg_machine.specs.declared.Event.{Event}
use Rattle.hg_machine.specs.declared.Event.TheVariants as event
use Rattle.hg_machine.specs.declared.Answer.{Answer}
use Rattle.hg_machine.specs.declared.Answer.TheVariants as answer
use Rattle.hg_machine.specs.declared.Rule.{Rule}
use Rattle.hg_machine.specs.declared.Rule.TheVariants as rule
use Rattle.hg_machine.specs.declared.AllocVerdict.{AllocVerdict}
use Rattle.hg_machine.specs.declared.AllocVerdict.TheVariants as alloc
use Rattle.hg_machine.specs.Policy.{Policy, is_tenant, admits, limit_of}
use Rattle.hg_machine.specs.Life.{Life, home, live, parted, Record, never_used, is_home, owner_of}
use Rattle.hg_machine.specs.Life.{bytes_of}
use Rattle.hg_machine.specs.State.{State, Holder, fresh, orphan, held, record_at, holder_at}
use Rattle.hg_machine.specs.State.{places_in}
use Rattle.hg_machine.specs.Soundness.{IsSound}
use Rattle.hg_machine.specs.Holders.{holds, is_held_by}
use Rattle.hg_machine.specs.Changes.{given_out, part, write, with_life, abandoned, adopted}
use Rattle.hg_machine.specs.Charge.{share, charge}
use Rattle.hg_machine.specs.Request.{words_for, size_of, verdict_on_size, alloc_verdict}
use Rattle.hg_machine.specs.Refusal.{refusal, alloc_refusal}
use Rattle.hg_machine.specs.Served.{IsServed, IsNext}
use Rattle.hg_machine.specs.Steps.{successor}
use Rattle.hg_machine.specs.Sweeps.{is_sent_to, settled}
use Rattle.hg_machine.proofs.Cases.{step_cases}
use Rattle.hg_machine.proofs.Gives.{has_room_at}
use Rattle.hg_machine.proofs.Keeps.{set_cases}
use Rattle.hg_machine.proofs.Preserves.{held_is, steps_keep_sound, steps_keep_policy}
use Rattle.hg_machine.proofs.Takes.{settled_at}
use Rattle.hg_laws.specs.Limits.{is_refill_of, ChargesStayLow, AllocationsAreCharged, LimitsAreKept}
use Rattle.hg_laws.proofs.MachineFacts.{free_cases}
use Rattle.hg_laws.proofs.Refusals.{was_served}
use Rattle.hg_laws.proofs.Sums.{sum_le, sum_inside}

-- what a record adds to a charge where its place is held, or isn't
abbrev share_of : ℕ → Bool → Record → ℕ
share_of tenant b r = if b && (not (is_home r.life) && owner_of r.life == tenant) then bytes_of r.life else 0

home_share : (tenant : ℕ) (b : Bool) (r : Record) → is_home r.life ≡ true → share_of tenant b r ≡ 0
home_share tenant true r e = ap (λ h. if not h && owner_of r.life == tenant then bytes_of r.life else 0) e
home_share tenant false r e = refl

part_share : (tenant : ℕ) (b : Bool) (g : ℕ) (l : Life) → share_of tenant b (record { generation = g; life = part l }) ≡ share_of tenant b (record { generation = g; life = l })
part_share tenant b g home = refl
part_share tenant b g (live owner words) = refl
part_share tenant b g (parted owner words) = refl

write_share : (tenant : ℕ) (b : Bool) (g index value : ℕ) (l : Life) → share_of tenant b (record { generation = g; life = write l index value }) ≡ share_of tenant b (record { generation = g; life = l })
write_share tenant b g index value home = refl
write_share tenant b g index value (live owner words) = ap (λ n. if b && (true && owner == tenant) then 8 * n else 0) (length-set words index value)
write_share tenant b g index value (parted owner words) = refl

-- the shares of the first places
abbrev sum_by_share : State → ℕ → ℕ → ℕ → ℕ
sum_by_share s heap tenant n = sum_by (share s heap tenant) (range_with_len 0 n)

-- a charge is no higher where no share is
charge_le : (s t : State) (heap tenant : ℕ) → length t.records ≡ length s.records → ((q : ℕ) → share t heap tenant q ≤ share s heap tenant q) → charge t heap tenant ≤ charge s heap tenant
charge_le s t heap tenant same h =
    let a = sum_le (share s heap tenant) (share t heap tenant) (places_in s) h in
    subst (λ n. sum_by_share t heap tenant n ≤ charge s heap tenant) (sym same) a

-- another life of the same generation at a place, which adds no more
life_share : (s : State) (heap tenant p q : ℕ) (l : Life) → ((b : Bool) → share_of tenant b (record { generation = (record_at s p).generation; life = l }) ≤ share_of tenant b (record_at s p))
    → share (with_life s p l) heap tenant q ≤ share s heap tenant q
life_share s heap tenant p q l less =
    let r : Record = record { generation = (record_at s p).generation; life = l } in
    let b = holds s heap (segment_of q) in
    elim (set_cases s.records p q r never_used) as (λ _. share_of tenant b (get_or (set s.records p r) q never_used) ≤ share_of tenant b (record_at s q)) [
      | inl here ↦ subst (λ x. share_of tenant b x ≤ share_of tenant b (record_at s q)) (sym here.1) (subst (λ n. share_of tenant b r ≤ share_of tenant b (record_at s n)) (sym here.0) (less b))
      | inr other ↦ let e = ap (share_of tenant b) other in omega arith
    ]

settled_share : (tenant : ℕ) (b sent : Bool) (r : Record) → share_of tenant b (if sent then record { generation = r.generation; life = home } else r) ≤ share_of tenant b r
settled_share tenant b true r = let e = home_share tenant b (record { generation = r.generation; life = home }) refl in omega arith
settled_share tenant b false r = omega arith

-- where the worker doesn't hold it any more, nothing
unheld_share : (tenant : ℕ) (b c : Bool) (r : Record) → (b ≡ c) ⊎ (b ≡ false) → share_of tenant b r ≤ share_of tenant c r
unheld_share tenant b c r o = elim o as (λ _. share_of tenant b r ≤ share_of tenant c r) [
  | inl same ↦ let e = ap (λ x. share_of tenant x r) same in omega arith
  | inr none ↦ let e : share_of tenant b r ≡ 0 = ap (λ x. share_of tenant x r) none in omega arith
]

-- another holder of a segment, who isn't the worker
held_by_other : (holders : List Holder) (segment g heap : ℕ) (h : Holder) → is_held_by heap h ≡ false
    → (is_held_by heap (get_or (set holders segment h) g fresh) ≡ is_held_by heap (get_or holders g fresh)) ⊎ (is_held_by heap (get_or (set holders segment h) g fresh) ≡ false)
held_by_other holders segment g heap h none =
    elim (set_cases holders segment g h fresh) as (λ _. (is_held_by heap (get_or (set holders segment h) g fresh) ≡ is_held_by heap (get_or holders g fresh)) ⊎ (is_held_by heap (get_or (set holders segment h) g fresh) ≡ false)) [
      | inl here ↦ inr (ap (is_held_by heap) here.1 ∙ none)
      | inr other ↦ inl (ap (is_held_by heap) other)
    ]

-- why a served allocation fits
fits_of : (s : State) (worker arena : ℕ) (v : AllocVerdict) → alloc_refusal s worker arena v ≡ None → (n : ℕ) × (v ≡ alloc.Fits n)
fits_of s worker arena (alloc.Denied r) e = absurd (cc)
fits_of s worker arena alloc.TooLarge e = absurd (cc)
fits_of s worker arena (alloc.Fits n) e = (n, refl)

past_denials : (b c : Bool) (r q : Rule) (v : AllocVerdict) (n : ℕ) → unwrap_or (cond b (Some (alloc.Denied r)) (cond c (Some (alloc.Denied q)) None)) v ≡ alloc.Fits n → v ≡ alloc.Fits n
past_denials true c r q v n e = absurd (cc)
past_denials false true r q v n e = absurd (cc)
past_denials false false r q v n e = e

in_limit : (b : Bool) (m n : ℕ) → (if b then alloc.Fits m else alloc.Denied rule.OverLimit) ≡ alloc.Fits n → (b ≡ true) × (m ≡ n)
in_limit true m n e = (refl, cc)
in_limit false m n e = absurd (cc)

size_in_limit : (policy : Policy) (actor charged : ℕ) (o : Option ℕ) (n : ℕ) → verdict_on_size policy actor charged o ≡ alloc.Fits n → charged + 8 * unwrap_or o 0 ≤ limit_of policy actor
size_in_limit policy actor charged None n e = absurd (cc)
size_in_limit policy actor charged (Some m) n e = leb-true _ _ (in_limit (nat_le (charged + 8 * m) (limit_of policy actor)) m n e).0

within_limit : (s : State) (w actor arena bytes : ℕ) → alloc_refusal s w arena (alloc_verdict s.policy actor arena (words_for bytes) (charge s w actor)) ≡ None
    → charge s w actor + 8 * size_of bytes ≤ limit_of s.policy actor
within_limit s w actor arena bytes none =
    let f = fits_of s w arena _ none in
    let v = past_denials (not (is_tenant s.policy actor)) (not (admits s.policy arena actor)) rule.Stranger rule.ForeignArena (verdict_on_size s.policy actor (charge s w actor) (size_for (words_for bytes))) f.0 f.1 in
    size_in_limit s.policy actor (charge s w actor) (size_for (words_for bytes)) f.0 v

-- the shares after a place was given out
given_other : (s : State) (actor size heap tenant q : ℕ) (handle : Handle) → q ≢ number_of handle.place → share (given_out s actor handle size) heap tenant q ≡ share s heap tenant q
given_other s actor size heap tenant q handle ne =
    ap (share_of tenant (holds s heap (segment_of q))) (get_or-set_other s.records (number_of handle.place) q _ never_used ne)

given_share : (s : State) (actor size heap tenant : ℕ) (handle : Handle) → number_of handle.place < length s.records
    → share (given_out s actor handle size) heap tenant (number_of handle.place)
    ≡ (if holds s heap (segment_of (number_of handle.place)) && (actor == tenant) then 8 * size else 0)
given_share s actor size heap tenant handle inside =
    let p = number_of handle.place in
    let fresh_one : Record = record { generation = handle.generation; life = live actor (replicate size 0) } in
    ap (share_of tenant (holds s heap (segment_of p))) (get_or-set_at s.records p p fresh_one never_used refl inside)
    ∙ ap (λ n. if holds s heap (segment_of p) && (actor == tenant) then 8 * n else 0) (length-replicate size 0)

-- the charge of the actor in the heap of the worker
given_charge : (s : State) (w arena actor size : ℕ) (handle : Handle) → IsSound s → IsNext s w arena size handle
    → charge (given_out s actor handle size) w actor ≡ charge s w actor + 8 * size
given_charge s w arena actor size handle sound next =
    let p = number_of handle.place in
    let room = has_room_at s w arena size p sound next.room in
    let new = given_out s actor handle size in
    let here : share new w actor p ≡ 8 * size =
    given_share s actor size w actor handle room.within
    ∙ ap (λ b. if b && (actor == actor) then 8 * size else 0) room.holds
    ∙ ap (λ b. if b then 8 * size else 0) (eq-eqb actor actor refl)
    in
    let all = sum_inside (share s w actor) (share new w actor) 0 (length s.records) p (λ q ne. given_other s actor size w actor q handle ne) (home_share actor (holds s w (segment_of p)) (record_at s p) room.at_home) (omega arith) (omega (arith, room.within)) in
    let same : length new.records ≡ length s.records = length-set s.records p _ in
    subst (λ n. sum_by_share new w actor n ≡ charge s w actor + 8 * size) (sym same) (all ∙ ap (λ k. charge s w actor + k) here)

-- any other charge is as it was
other_charge : (s : State) (w arena actor size heap tenant : ℕ) (handle : Handle) → IsSound s → IsNext s w arena size handle
    → (holds s heap (segment_of (number_of handle.place)) && (actor == tenant)) ≡ false
    → charge (given_out s actor handle size) heap tenant ≤ charge s heap tenant
other_charge s w arena actor size heap tenant handle sound next none =
    let p = number_of handle.place in
    let room = has_room_at s w arena size p sound next.room in
    charge_le s (given_out s actor handle size) heap tenant (length-set s.records p _)
    (λ q. elim (cases_eq q p) as (λ _. share (given_out s actor handle size) heap tenant q ≤ share s heap tenant q) [
      | inl e ↦
          let zero_share : share (given_out s actor handle size) heap tenant p ≡ 0 = given_share s actor size heap tenant handle room.within ∙ ap (λ b. if b then 8 * size else 0) none in
          let at : share (given_out s actor handle size) heap tenant q ≡ share (given_out s actor handle size) heap tenant p = ap (share (given_out s actor handle size) heap tenant) e in
          omega arith
      | inr ne ↦ let e = given_other s actor size heap tenant q handle ne in omega arith
    ])

other_holder : (s : State) (w heap segment : ℕ) → holds s w segment ≡ true → heap ≢ w → holds s heap segment ≡ false
other_holder s w heap segment e ne = ap (is_held_by heap) (held_is w (holder_at s segment) e) ∙ ne_eqb w heap (λ k. ne (sym k))

-- the charge after a served event
abbrev Low : State → ℕ → ℕ → State → Type 0
Low s heap tenant new = (charge new heap tenant ≤ charge s heap tenant) ⊎ (charge new heap tenant ≤ limit_of s.policy tenant)

low_at : (s : State) (w : ℕ) (e : Event) (a given : Answer) (heap tenant : ℕ) → a ≡ given → charge (successor s w e given) heap tenant ≤ charge s heap tenant → Low s heap tenant (successor s w e a)
low_at s w e a given heap tenant is less = inl (subst (λ z. charge (successor s w e z) heap tenant ≤ charge s heap tenant) (sym is) less)

no_more : (n : ℕ) → n ≤ n
no_more n = omega arith

served_low : (s : State) (w : ℕ) (e : Event) (a : Answer) (heap tenant : ℕ) → IsSound s → is_refill_of heap w e ≡ false → refusal s w e ≡ None → IsServed s w e a → Low s heap tenant (successor s w e a)
served_low s w (event.Alloc actor arena bytes) a heap tenant sound own none k =
    let handle = k.0 in
    let p = number_of handle.place in
    let size = size_of bytes in
    let room = has_room_at s w arena size p sound k.2.room in
    subst (λ z. Low s heap tenant (successor s w (event.Alloc actor arena bytes) z)) (sym k.1)
    (elim (cases_eq heap w) as (λ _. Low s heap tenant (given_out s actor.0 handle size)) [
      | inr ne ↦ inl (other_charge s w arena actor.0 size heap tenant handle sound k.2 (and_left _ (actor.0 == tenant) (other_holder s w heap (segment_of p) room.holds ne)))
      | inl e ↦ elim (cases_eq actor.0 tenant) as (λ _. Low s heap tenant (given_out s actor.0 handle size)) [
        | inr ne ↦ inl (other_charge s w arena actor.0 size heap tenant handle sound k.2 (and_right (holds s heap (segment_of p)) _ (ne_eqb _ _ ne)))
        | inl same ↦ inr (
            let now = given_charge s w arena actor.0 size handle sound k.2 in
            let most = within_limit s w actor.0 arena bytes none in
            let good : charge (given_out s actor.0 handle size) w actor.0 ≤ limit_of s.policy actor.0 = omega arith in
            subst (λ h. charge (given_out s actor.0 handle size) h tenant ≤ limit_of s.policy tenant) (sym e) (subst (λ t. charge (given_out s actor.0 handle size) w t ≤ limit_of s.policy t) same good))
      ]
    ])
served_low s w (event.Free actor handle) a heap tenant sound own none is =
    let p = number_of handle.place in
    elim (free_cases (holds s w handle.place.segment) a is) as (λ _. Low s heap tenant (successor s w (event.Free actor handle) a)) [
      | inl done ↦ low_at s w (event.Free actor handle) a answer.Done heap tenant done
          (charge_le s (with_life s p home) heap tenant (length-set s.records p _) (λ q. life_share s heap tenant p q home (λ b. let e = home_share tenant b (record { generation = (record_at s p).generation; life = home }) refl in omega arith)))
      | inr away ↦ low_at s w (event.Free actor handle) a answer.Parted heap tenant away
          (charge_le s (with_life s p (part (record_at s p).life)) heap tenant (length-set s.records p _) (λ q. life_share s heap tenant p q (part (record_at s p).life) (λ b. let e = part_share tenant b (record_at s p).generation (record_at s p).life in omega arith)))
    ]
served_low s w event.Deliver a heap tenant sound own none is = low_at s w event.Deliver a answer.Done heap tenant is (no_more (charge s heap tenant))
served_low s w (event.Take segment) a heap tenant sound own none is =
    low_at s w (event.Take segment) a _ heap tenant is
    (charge_le s (record s { records = map (settled s segment) (places_in s) }) heap tenant (length-map-range_with_len (settled s segment) 0 (length s.records))
    (λ q. subst (λ r. share_of tenant (holds s heap (segment_of q)) r ≤ share s heap tenant q) (sym (settled_at s segment q)) (settled_share tenant (holds s heap (segment_of q)) (is_sent_to s segment q) (record_at s q))))
served_low s w event.Collect a heap tenant sound own none is = low_at s w event.Collect a _ heap tenant is (no_more (charge s heap tenant))
served_low s w (event.Read actor handle index) a heap tenant sound own none is = low_at s w (event.Read actor handle index) a _ heap tenant is (no_more (charge s heap tenant))
served_low s w (event.Write actor handle index value) a heap tenant sound own none is =
    let p = number_of handle.place in
    low_at s w (event.Write actor handle index value) a answer.Done heap tenant is
    (charge_le s (with_life s p (write (record_at s p).life index value)) heap tenant (length-set s.records p _)
    (λ q. life_share s heap tenant p q (write (record_at s p).life index value) (λ b. let e = write_share tenant b (record_at s p).generation index value (record_at s p).life in omega arith)))
served_low s w (event.Look actor at) a heap tenant sound own none k = low_at s w (event.Look actor at) a _ heap tenant k.1 (no_more (charge s heap tenant))
served_low s w (event.Abandon segment) a heap tenant sound own none is =
    low_at s w (event.Abandon segment) a answer.Done heap tenant is
    (charge_le s (abandoned s segment) heap tenant refl
    (λ q. unheld_share tenant (holds (abandoned s segment) heap (segment_of q)) (holds s heap (segment_of q)) (record_at s q) (held_by_other s.holders segment (segment_of q) heap orphan refl)))
served_low s w (event.Refill arena) a heap tenant sound own none k =
    low_at s w (event.Refill arena) a _ heap tenant k.1
    (charge_le s (adopted s w k.0) heap tenant refl
    (λ q. unheld_share tenant (holds (adopted s w k.0) heap (segment_of q)) (holds s heap (segment_of q)) (record_at s q) (held_by_other s.holders k.0 (segment_of q) heap (held w) own)))

pub charges_stay_low : ChargesStayLow
charges_stay_low s w e a new heap tenant sound own h = elim (step_cases s w e a new h) as (λ _. Low s heap tenant new) [
  | inl is ↦ subst (Low s heap tenant) (sym is.after) (served_low s w e a heap tenant sound own is.none is.serves)
  | inr is ↦ inl (let e : charge new heap tenant ≡ charge s heap tenant = ap (λ t. charge t heap tenant) is.same in omega arith)
]

block_same : (h k : Handle) → answer.Block h ≡ answer.Block k → h ≡ k
block_same h k e = cc

pub allocations_are_charged : AllocationsAreCharged
allocations_are_charged s w actor arena bytes handle new sound h =
    let is = was_served s w (event.Alloc actor arena bytes) (answer.Block handle) new h refl in
    let same : handle ≡ is.serves.0 = block_same _ _ is.serves.1 in
    let next : IsNext s w arena (size_of bytes) handle = subst (IsNext s w arena (size_of bytes)) (sym same) is.serves.2 in
    let now = given_charge s w arena actor.0 (size_of bytes) handle sound next in
    let at : charge new w actor.0 ≡ charge (given_out s actor.0 handle (size_of bytes)) w actor.0 = ap (λ t. charge t w actor.0) is.after in
    let most = within_limit s w actor.0 arena bytes is.none in
    (at ∙ now, omega arith)

pub limits_are_kept : LimitsAreKept
limits_are_kept old [] [] new heap tenant sound below own most run = subst (λ t. charge t heap tenant ≤ limit_of old.policy tenant) (sym run) most
limits_are_kept old [] (a ∷ rest) new heap tenant sound below own most run = absurd run
limits_are_kept old (e ∷ es) [] new heap tenant sound below own most run = absurd run
limits_are_kept old (e ∷ es) (a ∷ rest) new heap tenant sound below own most run =
    let mid = run.0 in
    let kept = steps_keep_policy old e.0 e.1 a mid run.1 in
    let here : charge mid heap tenant ≤ limit_of old.policy tenant =
    elim (charges_stay_low old e.0 e.1 a mid heap tenant sound (own 0 e (omega arith)) run.1) as (λ _. charge mid heap tenant ≤ limit_of old.policy tenant) [
      | inl less ↦ omega arith
      | inr good ↦ good
    ]
    in
    subst (λ p. charge new heap tenant ≤ limit_of p tenant) kept
    (limits_are_kept mid es rest new heap tenant (steps_keep_sound old e.0 e.1 a mid sound (below 0 e (omega arith)) run.1)
    (λ k d h. subst (λ p. (get_or es k d).0 < p.workers) (sym kept) (below (suc k) d (omega arith)))
    (λ k d h. own (suc k) d (omega arith))
    (subst (λ p. charge mid heap tenant ≤ limit_of p tenant) (sym kept) here)
    run.2)
