-- In a segment that nobody has held yet no block lies, and so taking it raises no charge.
use Rattle.std.proofs.Common.{◌≡◌, ◌⊎◌, inl, inr, ℕ, ◌+◌, ◌*◌, ◌==◌, ◌&&◌, ◌≤◌, Bool, true}
use Rattle.std.proofs.Common.{false, cond, List, [], ◌∷◌, length, get_or, set, find, count_by}
use Rattle.std.proofs.Common.{Option, Some, None, refl, sym, ap, ◌∙◌, arith}
use Rattle.std.specs.List.{range_with_len}
use Rattle.std.specs.Option.{option_or}
use Rattle.std.proofs.lemmas.Bool.{cases_Bool, and_parts, eq-eqb, true≢false}
use Rattle.std.proofs.lemmas.List.Sums.{sum_by-cons}
use Rattle.std.proofs.lemmas.Option.{none-some, same_Some}
use Rattle.hg_place.specs.Places.{segment_of}
use Rattle.hg_place.specs.Words.{bit_of}
use Rattle.hg_machine.specs.declared.Event.{Event}
use Rattle.hg_machine.specs.declared.Event.TheVariants as event
use Rattle.hg_machine.specs.declared.Answer.{Answer}
use Rattle.hg_machine.specs.declared.Answer.TheVariants as answer
use Rattle.hg_machine.specs.Life.{never_used, is_home}
use Rattle.hg_machine.specs.Policy.{Policy}
use Rattle.hg_machine.specs.State.{State, Holder, fresh, orphan, held, record_at, holder_at}
use Rattle.hg_machine.specs.State.{opening}
use Rattle.hg_machine.specs.Holders.{holds, is_held_by, is_orphan, is_fresh, is_in_arena, next_of}
use Rattle.hg_machine.specs.Changes.{adopted}
use Rattle.hg_machine.specs.Charge.{charge}
use Rattle.hg_machine.specs.Soundness.{IsSound}
use Rattle.hg_machine.specs.Steps.{Step, successor}
use Rattle.hg_machine.proofs.Cases.{step_cases}
use Rattle.hg_machine.proofs.Keeps.{set_cases}
use Rattle.hg_machine.proofs.Opening.{all_same}
use Rattle.hg_laws.proofs.WorkersLemmas.{workers_keep_apart}
use Rattle.hg_bank.proofs.ChargeLemmas.{share_of, home_share, parting_alike}
use Rattle.hg_bank.proofs.FallLemmas.{charge_le}

-- each place of a segment that nobody has held yet is home
abbrev pub AreUnused : State → Type 0
AreUnused s = (place : ℕ) → holder_at s (segment_of place) ≡ fresh
    → is_home (record_at s place).life ≡ true

pub opening_unused : (policy : Policy) → AreUnused (opening policy)
opening_unused policy place e =
    ap (λ r. is_home r.life) (all_same (length policy.segments * 8192) place never_used)

-- a segment that gets a holder, or loses it, isn't fresh
other_holder : (holders : List Holder) (segment g : ℕ) (h : Holder) → is_fresh h ≡ false
    → get_or (set holders segment h) g fresh ≡ fresh → get_or holders g fresh ≡ fresh
other_holder holders segment g h not e =
    elim (set_cases holders segment g h fresh) as (λ _. get_or holders g fresh ≡ fresh) [
      | inl here ↦ absurd (true≢false (sym (ap is_fresh (sym here.1 ∙ e)) ∙ not))
      | inr other ↦ sym other ∙ e
    ]

was_fresh : (s : State) (w : ℕ) (e : Event) (a : Answer) (g : ℕ)
    → holder_at (successor s w e a) g ≡ fresh → holder_at s g ≡ fresh
was_fresh s w (event.Abandon segment) answer.Done g e =
    other_holder s.holders segment g orphan refl e
was_fresh s w (event.Refill arena) (answer.Refilled segment) g e =
    other_holder s.holders segment g (held w) refl e
was_fresh s w (event.Alloc actor arena bytes) (answer.Block handle) g e = e
was_fresh s w (event.Free actor handle) answer.Done g e = e
was_fresh s w (event.Free actor handle) answer.Parted g e = e
was_fresh s w event.Deliver answer.Done g e = e
was_fresh s w (event.Take segment) (answer.Taken n) g e = e
was_fresh s w event.Collect (answer.Pages n) g e = e
was_fresh s w (event.Write actor handle index value) answer.Done g e = e
was_fresh s w e a g is = is

-- so a step leaves it so
pub stays_unused : (s : State) (w : ℕ) (e : Event) (a : Answer) (new : State) → IsSound s
    → Step s w e a new → AreUnused s → AreUnused new
stays_unused s w e a new sound h unused place is =
    let g = segment_of place in
    let was : holder_at s g ≡ fresh =
    elim (step_cases s w e a new h) as (λ _. holder_at s g ≡ fresh) [
      | inl served ↦ was_fresh s w e a g (sym (ap (λ t. holder_at t g) served.after) ∙ is)
      | inr refused ↦ sym (ap (λ t. holder_at t g) refused.same) ∙ is
    ]
    in
    let apart = workers_keep_apart s w e a new sound h in
    elim (apart.records place (ap (is_held_by w) was)) as
    (λ _. is_home (record_at new place).life ≡ true) [
      | inl same ↦ ap (λ r. is_home r.life) same ∙ unused place was
      | inr parting ↦ (parting_alike s place e a new parting).free ∙ unused place was
    ]

abbrev once : Bool → ℕ
once b = cond b 1 0

-- what is found passes, and is there
pub found_passes : (p : ℕ → Bool) (xs : List ℕ) (n : ℕ) → find p xs ≡ Some n
    → (p n ≡ true) × (1 ≤ count_by (λ y. y == n) xs)
found_passes p [] n e = absurd (none-some n e)
found_passes p (x ∷ xs) n e =
    let all : count_by (λ y. y == n) (x ∷ xs) ≡ once (x == n) + count_by (λ y. y == n) xs =
    sum_by-cons (λ y. cond (y == n) 1 0) x xs in
    elim (cases_Bool (p x)) as
    (λ _. (p n ≡ true) × (1 ≤ count_by (λ y. y == n) (x ∷ xs))) [
      | inl t ↦
          let same : x ≡ n =
          same_Some _ _ (sym (ap (λ b. cond b (Some x) (find p xs)) t) ∙ e) in
          let one : once (x == n) ≡ 1 = ap once (eq-eqb x n same) in
          (ap p (sym same) ∙ t, omega arith)
      | inr f ↦
          let rest = found_passes p xs n (sym (ap (λ b. cond b (Some x) (find p xs)) f) ∙ e) in
          let counted = rest.1 in
          (rest.0, omega arith)
    ]

first_or : (o q : Option ℕ) (n : ℕ) → option_or o q ≡ Some n → (o ≡ Some n) ⊎ (q ≡ Some n)
first_or None q n e = inr e
first_or (Some m) q n e = inl e

is_one : (b : Bool) → 1 ≤ bit_of b → b ≡ true
is_one true h = refl
is_one false h = absurd (omega arith)

orphan_is : (h : Holder) → is_orphan h ≡ true → h ≡ orphan
orphan_is fresh e = absurd (true≢false (sym e))
orphan_is orphan e = refl
orphan_is (held w) e = absurd (true≢false (sym e))

fresh_is : (h : Holder) → is_fresh h ≡ true → h ≡ fresh
fresh_is fresh e = refl
fresh_is orphan e = absurd (true≢false (sym e))
fresh_is (held w) e = absurd (true≢false (sym e))

-- what a refill takes is an orphan or fresh
pub next_is : (s : State) (arena g : ℕ) → IsSound s → next_of s arena ≡ Some g
    → (holder_at s g ≡ orphan) ⊎ (holder_at s g ≡ fresh)
next_is s arena g sound e =
    let p = is_in_arena s arena in
    elim (first_or (find p s.orphans) _ g e) as
    (λ _. (holder_at s g ≡ orphan) ⊎ (holder_at s g ≡ fresh)) [
      | inl old ↦
          let there = (found_passes p s.orphans g old).1 in
          let bit = sound.orphans g in
          inl (orphan_is (holder_at s g) (is_one _ (omega arith)))
      | inr new ↦
          let there = found_passes (λ n. p n && is_fresh (holder_at s n))
          (range_with_len 0 (length s.holders)) g new in
          inr (fresh_is (holder_at s g) (and_parts (p g) _ there.0).1)
    ]

-- a fresh segment that a worker takes brings nothing
pub fresh_le : (s : State) (w g worker tenant : ℕ) → AreUnused s → holder_at s g ≡ fresh
    → charge (adopted s w g) worker tenant ≤ charge s worker tenant
fresh_le s w g worker tenant unused is =
    charge_le s (adopted s w g) worker tenant refl (λ q.
    let life = (record_at s q).life in
    let now = holds (adopted s w g) worker (segment_of q) in
    let was = holds s worker (segment_of q) in
    elim (set_cases s.holders g (segment_of q) (held w) fresh) as
    (λ _. share_of tenant now life ≤ share_of tenant was life) [
      | inl here ↦
          let none = home_share tenant now life
          (unused q (ap (holder_at s) here.0 ∙ is)) in
          omega arith
      | inr other ↦
          let same = ap (λ h. share_of tenant (is_held_by worker h) life) other in
          omega arith
    ])
