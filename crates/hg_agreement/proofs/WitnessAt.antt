-- What the witness state has at each place, page and segment.
use Rattle.std.proofs.Common.{◌≡◌, ℕ, ◌*◌, ◌<◌, ◌≤◌, inl, inr, Bool, true, false, ◌||◌, map, length}
use Rattle.std.proofs.Common.{get_or, replicate, Option, Some, None, IfSome, refl, sym, ap, subst}
use Rattle.std.proofs.Common.{◌∙◌, arith}
use Rattle.std.specs.List.{range_with_len}
use Rattle.std.proofs.lemmas.Bool.{cases_lt, cases_Bool, or_left, or_right, false_from_ne_true}
use Rattle.std.proofs.lemmas.Grind.{get_or-set_at}
use Rattle.std.proofs.lemmas.List.{get_or_past, length-replicate}
use Rattle.std.proofs.lemmas.List.FromFn.{length-map-range_with_len, get_or-map-range_with_len}
use Rattle.std.proofs.lemmas.Option.{none-some}
use Rattle.hg_place.specs.Places.{page_of, segment_of, segment_of_page}
use Rattle.hg_machine.specs.Life.{never_used}
use Rattle.hg_machine.specs.State.{State, fresh, record_at, class_at, holder_at, hand_of}
use Rattle.hg_machine.specs.Holders.{is_number, is_held_by, holds}
use Rattle.hg_machine.proofs.Keeps.{set_cases}
use Rattle.hg_machine.proofs.Opening.{all_same}
use Rattle.hg_machine.proofs.Suits.{number_some}
use Rattle.hg_agreement.specs.Views.{View, Shown}
use Rattle.hg_agreement.specs.Witness.{record_held, record_elsewhere, is_shown_at, is_on}
use Rattle.hg_agreement.specs.Witness.{is_shown_on, record_in, class_in, holder_in, witness}
use Rattle.hg_agreement.specs.Witness.{IsHeapView, IsFoundBy, IsUsual, IsHandOf}
use Rattle.hg_agreement.proofs.Observed.{shown_some, on_some, shown_on_some, at_on, hand_on}
use Rattle.hg_agreement.proofs.WitnessParts.{holder_is}

-- a list by number, with nothing past its end
numbered : {X : Type 0} (f : ℕ → X) (d : X) (n k : ℕ) → (n ≤ k → f k ≡ d)
    → get_or (map f (range_with_len 0 n)) k d ≡ f k
numbered {X} f d n k past = elim (cases_lt k n) [
  | inl below ↦ get_or-map-range_with_len f 0 n k k d below (omega arith)
  | inr over ↦ get_or_past (map f (range_with_len 0 n)) k d
      (let l = length-map-range_with_len f 0 n in omega arith) ∙ sym (past over)
]

-- a worker that was told a word, without the exceptions
pub record IsTold (view : View) (shown : Option Shown) : Type 0 where
  pub heap : IsHeapView view
  pub hand : IsHandOf view
  pub found : IfSome shown (IsFoundBy view)
  pub usual : IsUsual view shown

pub found_at : {view : View} {shown : Option Shown} → IsTold view shown → (s : Shown)
    → shown ≡ Some s → IsFoundBy view s
found_at {view} {shown} t s e = subst (λ o. IfSome o (IsFoundBy view)) e t.found

module _ {view : View} {shown : Option Shown} (t : IsTold view shown) where
  abbrev segments : ℕ
  segments = length view.policy.segments

  abbrev state : State
  state = witness view shown

  unheld : (segment : ℕ) → segments ≤ segment → view.holds segment ≡ false
  unheld segment past =
      false_from_ne_true _ (λ e. let h = t.heap.segments segment e in omega arith)

  record_past : (q : ℕ) → segments * 8192 ≤ q → record_in view shown q ≡ never_used
  record_past q past =
      let h = unheld (segment_of q) (omega arith) in
      let n : is_number q view.hand ≡ false = false_from_ne_true _
      (λ e. let h = t.hand.within q (number_some q view.hand e) in omega arith) in
      let s : is_shown_at shown q ≡ false = false_from_ne_true _ (λ e.
      let s = shown_some shown q e in let h = (found_at t s.0 s.1).within in let e = s.2 in
      omega arith) in
      rw (h, n, s)

  class_past : (page : ℕ) → segments * 16 ≤ page → class_in view shown page ≡ None
  class_past page past =
      let h = unheld (segment_of_page page) (omega arith) in
      let n : is_on page view.hand ≡ false = false_from_ne_true _ (λ e.
      let o = on_some page view.hand e in let h = t.hand.within o.0 o.1 in let e = o.2 in
      omega arith) in
      let s : is_shown_on page shown ≡ false = false_from_ne_true _ (λ e.
      let s = shown_on_some page shown e in let h = (found_at t s.0 s.1).within in let e = s.2 in
      omega arith) in
      rw (h, n, s)

  pub record_is : (q : ℕ) → record_at state q ≡ record_in view shown q
  record_is q = numbered (record_in view shown) never_used (segments * 8192) q (record_past q)

  pub class_is : (page : ℕ) → class_at state page ≡ class_in view shown page
  class_is page = numbered (class_in view shown) None (segments * 16) page (class_past page)

  pub hand_is : hand_of state view.worker ≡ view.hand
  hand_is = get_or-set_at (replicate view.policy.workers None) view.worker view.worker view.hand
      None refl (let none : Option ℕ = None in let l = length-replicate view.policy.workers none
      in let b = t.heap.worker in omega arith)

  pub hand_of_one : (v q : ℕ) → hand_of state v ≡ Some q
      → (v ≡ view.worker) × (view.hand ≡ Some q)
  hand_of_one v q e =
      elim (set_cases (replicate view.policy.workers None) view.worker v view.hand None) [
        | inl here ↦ (here.0, sym here.1 ∙ e)
        | inr other ↦ absurd (none-some q (sym (all_same view.policy.workers v None)
            ∙ (sym other ∙ e)))
      ]

  pub holder_is_of : (segment : ℕ) → segment < segments
      → holder_at state segment ≡ holder_in view segment
  holder_is_of segment below = get_or-map-range_with_len (holder_in view) 0 segments segment
      segment fresh below (omega arith)

  pub holder_past : (segment : ℕ) → segments ≤ segment → holder_at state segment ≡ fresh
  holder_past segment past =
      get_or_past (map (holder_in view) (range_with_len 0 segments)) segment fresh
      (let l = length-map-range_with_len (holder_in view) 0 segments in omega arith)

  pub holding_is : (segment : ℕ) → holds state view.worker segment ≡ view.holds segment
  holding_is segment = elim (cases_lt segment segments) [
    | inl below ↦ ap (is_held_by view.worker) (holder_is_of segment below)
        ∙ holder_is (view.holds segment) view.worker
    | inr past ↦ ap (is_held_by view.worker) (holder_past segment past)
        ∙ sym (unheld segment past)
  ]

  -- a held place, and another
  pub held_is : (q : ℕ) → view.holds (segment_of q) ≡ true
      → record_at state q ≡ record_held view shown q
  held_is q h = record_is q ∙ rw h

  pub elsewhere_is : (q : ℕ) → view.holds (segment_of q) ≡ false
      → record_at state q ≡ record_elsewhere view shown q
  elsewhere_is q h = record_is q ∙ rw h

  pub class_held : (page : ℕ) → view.holds (segment_of_page page) ≡ true
      → class_at state page ≡ view.class page
  class_held page h = class_is page ∙ rw h

  pub held_page : (q : ℕ) (b : Bool) → view.holds (segment_of q) ≡ b
      → view.holds (segment_of_page (page_of q)) ≡ b
  held_page q b h =
      let same : segment_of_page (page_of q) ≡ segment_of q = omega arith in
      ap view.holds same ∙ h

  pub class_told : (q : ℕ) → view.holds (segment_of q) ≡ false
      → (is_number q view.hand || is_shown_at shown q) ≡ true → class_at state (page_of q) ≡ Some 1
  class_told q h told =
      let f = held_page q false h in
      let on : (is_on (page_of q) view.hand || is_shown_on (page_of q) shown) ≡ true =
      elim (cases_Bool (is_number q view.hand)) [
        | inl in_hand ↦ or_left _ _ (hand_on view.hand q in_hand)
        | inr not_in ↦ or_right _ _ (at_on shown q (ap (λ b. b || is_shown_at shown q) (sym not_in)
            ∙ told))
      ] in
      class_is (page_of q) ∙ rw (f, on)
