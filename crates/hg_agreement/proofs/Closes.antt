-- The word of a place whose life was ended.
use Rattle.std.proofs.Common.{◌≡◌, ℕ, ◌+◌, ◌-◌, ◌/◌, ◌%◌, ◌==◌, ◌≤◌, inl, inr, Bool, true, false}
use Rattle.std.proofs.Common.{◌&&◌, if◌then◌else◌, sym, ap, ◌∙◌, arith, nat_lt}
use Rattle.std.proofs.lemmas.Bool.{cases_Bool, true≢false, eqb-true, eqb-false, ltb-false, or_parts}
use Rattle.std.proofs.lemmas.Bool.{and_cases, le-ltb, or_from}
use Rattle.hg_machine.proofs.Looks.{slot_same}
use Rattle.hg_place.specs.Slots.{Slot, slot_in, is_foreign, unused_slot}

abbrev pub read_as : ℕ → Bool → Slot
read_as w b = if b then unused_slot else record
    { generation = w / 4294967296; owner = w % 4294967296 / 2; live = w % 2 == 1 }

pub native : (w : ℕ) → (slot_in w).live ≡ true → is_foreign w ≡ false
native w e = elim (cases_Bool (is_foreign w)) [
  | inl t ↦ absurd (true≢false (sym e ∙ ap (λ b. (read_as w b).live) t))
  | inr f ↦ f
]

-- a slot word: its lower half is small, and it is 0 where there is no generation
pub record IsNative (w : ℕ) : Type 0 where
  pub low : w % 4294967296 ≤ 127
  pub unused : w / 4294967296 ≡ 0 → w ≤ 0

pub parts : (w : ℕ) → is_foreign w ≡ false → IsNative w
parts w e =
    let o = or_parts (nat_lt 127 (w % 4294967296)) (w / 4294967296 == 0 && nat_lt 0 w) e in
    record {
      low = ltb-false 127 (w % 4294967296) o.0;
      unused = λ z. elim (and_cases (w / 4294967296 == 0) (nat_lt 0 w) o.1) [
        | inl f ↦ absurd (eqb-false (w / 4294967296) 0 f z)
        | inr f ↦ ltb-false 0 w f
      ];
    }

pub from_parts : (w : ℕ) → IsNative w → is_foreign w ≡ false
from_parts w n =
    or_from _ _ (le-ltb 127 (w % 4294967296) n.low)
    (elim (cases_Bool (w / 4294967296 == 0)) [
      | inl t ↦ ap (λ b. w / 4294967296 == 0 && b) (le-ltb 0 w (n.unused (eqb-true _ _ t)))
          ∙ ap (λ b. b && false) t
      | inr f ↦ ap (λ b. b && nat_lt 0 w) f
    ])

abbrev ended : Slot → Slot
ended slot = record { generation = slot.generation; owner = slot.owner; live = false }

-- the word before a live one says the same, but for its life
pub closed : (w : ℕ) → (slot_in w).live ≡ true → slot_in (w - 1) ≡ ended (slot_in w)
closed w e =
    let f = native w e in
    let n = parts w f in
    let as_is : slot_in w ≡ read_as w false = ap (read_as w) f in
    let odd : w % 2 ≡ 1 = eqb-true _ _ (ap (λ s. s.live) (sym as_is) ∙ e) in
    let low = n.low in
    let some : w / 4294967296 ≡ 0 → ⊥ = λ z. let q = n.unused z in omega arith in
    let high : (w - 1) / 4294967296 ≡ w / 4294967296 = omega (arith, odd) in
    let rest : (w - 1) % 4294967296 + 1 ≡ w % 4294967296 = omega (arith, odd) in
    let half : (w - 1) % 4294967296 / 2 ≡ w % 4294967296 / 2 = omega (arith, odd, rest) in
    let even : (w - 1) % 2 ≡ 0 = omega (arith, odd) in
    let fine : IsNative (w - 1) =
    record { low = omega (arith, rest); unused = λ z. absurd (some (sym high ∙ z)) } in
    ap (read_as (w - 1)) (from_parts (w - 1) fine)
    ∙ slot_same (read_as (w - 1) false) (ended (read_as w false)) high half (ap (λ k. k == 1) even)
    ∙ ap ended (sym as_is)
