-- What a bucket keeps, and what a write to one leaves.
use Rattle.std.proofs.Common.{◌≡◌, ◌≢◌, ℕ, ◌-◌, ◌<◌, true, eqb, List, []}
use Rattle.std.proofs.Common.{Option, Some, None, is_some, length, get_or, set, length-set, get_or-set_other, get_or-set_same}
use Rattle.std.proofs.Common.{bit_and, Contains, position, ⊎_elim, refl, sym, ap, subst, ◌∙◌}
use Rattle.std.proofs.lemmas.Bool.{eqb-true, eqb-false, cases_eq}
use Rattle.std.proofs.lemmas.List.Quantifiers.{position-Some}
use Rattle.hg_labels.proofs.Positions.{position-None}
use Rattle.hg_labels.specs.Slots.{IsFull}
use Rattle.hg_labels.specs.Indexes.{home}
use Rattle.hg_labels.specs.declared.slot.Slot.{Slot}

-- a bucket in which no empty slot is found is full
pub IsFull-from_none : (bucket : List Slot) → position (λ slot. eqb slot.number 0) bucket ≡ None → IsFull bucket
IsFull-from_none bucket none = λ k d lt. eqb-false _ _ (position-None (λ (slot : Slot). eqb slot.number 0) bucket none k d lt)

-- a slot written where one was empty leaves the others
pub Contains-set_empty : (bucket : List Slot) (place : ℕ) (slot other : Slot) → position (λ slot. eqb slot.number 0) bucket ≡ Some place
    → other.number ≢ 0 → Contains bucket other → Contains (set bucket place slot) other
Contains-set_empty bucket place slot other found apart (k, lt, is) =
    let empty : (get_or bucket place other).number ≡ 0 = eqb-true _ _ (position-Some _ bucket place other found).1 in
    let ne : k ≢ place = λ e. apart (sym (ap (λ (s : Slot). s.number) is) ∙ ap (λ j. (get_or bucket j other).number) e ∙ empty) in
    (k, rw length-set lt, rw get_or-set_other is)

-- the same of the buckets, of which one is written
pub Contains-put : (buckets : List (List Slot)) (bucket : List Slot) (spot place : ℕ) (slot other : Slot) → spot < length buckets
    → bucket ≡ get_or buckets spot [] → position (λ slot. eqb slot.number 0) bucket ≡ Some place → other.number ≢ 0 → (at : ℕ)
    → Contains (home buckets at) other → Contains (home (set buckets spot (set bucket place slot)) at) other
Contains-put buckets bucket spot place slot other lt is found apart at kept =
    let i = bit_and at (length buckets - 1) in
    rw length-set (⊎_elim
    (λ (e : i ≡ spot). let here : Contains bucket other = subst (λ b. Contains b other) (ap (λ j. get_or buckets j []) e ∙ sym is) kept in
    subst (λ j. Contains (get_or (set buckets spot (set bucket place slot)) j []) other) (sym e)
    (rw get_or-set_same (Contains-set_empty bucket place slot other found apart here)))
    (λ (ne : i ≢ spot). rw get_or-set_other kept)
    (cases_eq i spot))

no_room : (bucket : List Slot) (found : Option ℕ) → found ≡ position (λ slot. eqb slot.number 0) bucket → is_some found ≡ true → IsFull bucket → ⊥
no_room bucket None is some full = cc
no_room bucket (Some place) is some full =
    let at = position-Some (λ (slot : Slot). eqb slot.number 0) bucket place (record { tag = 0; number = 0 }) (sym is) in
    full place (record { tag = 0; number = 0 }) at.0 (eqb-true _ _ at.1)

-- a bucket in which an empty slot is found isn't full
pub not_full : (bucket : List Slot) → is_some (position (λ slot. eqb slot.number 0) bucket) ≡ true → IsFull bucket → ⊥
not_full bucket = no_room bucket _ refl
