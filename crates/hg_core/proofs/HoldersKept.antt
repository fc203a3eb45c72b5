-- Who holds which segment after a step.
use Rattle.std.proofs.Common.{◌≡◌, ℕ, ◌<◌, inl, inr, if◌then◌else◌, Bool, true, false, List, Option}
use Rattle.std.proofs.Common.{Some, None, length, set, slice_index_or, slice_set, refl, sym, ap}
use Rattle.std.proofs.Common.{◌∙◌, arith}
use Rattle.std.proofs.lemmas.Bool.{cases_eq, cases_lt}
use Rattle.std.proofs.lemmas.Grind.{get_or-set_at}
use Rattle.std.proofs.lemmas.List.{get_or-set_other, get_or_past, length-set}
use Rattle.hg_machine.specs.declared.Event.{Event}
use Rattle.hg_machine.specs.declared.Answer.{Answer}
use Rattle.hg_machine.specs.State.{State, Holder, fresh, orphan, held}
use Rattle.hg_machine.specs.Holders.{holds}
use Rattle.hg_machine.specs.Served.{IsServed}
use Rattle.hg_machine.specs.Steps.{Step, successor}
use Rattle.hg_machine.proofs.Cases.{step_cases}
use Rattle.hg_core.specs.Held.{worker_in}
use Rattle.hg_core.specs.Stored.{AreHolders}
use Rattle.hg_machine.specs.declared.Event.TheVariants as event
use Rattle.hg_machine.specs.declared.Answer.TheVariants as answer

-- the event moves no segment
abbrev pub MovesNone : Event → Type 0
MovesNone (event.Alloc actor arena bytes) = Unit {0}
MovesNone (event.Free actor handle) = Unit {0}
MovesNone event.Deliver = Unit {0}
MovesNone (event.Take segment) = Unit {0}
MovesNone event.Collect = Unit {0}
MovesNone (event.Read actor handle index) = Unit {0}
MovesNone (event.Write actor handle index value) = Unit {0}
MovesNone (event.Look actor place) = Unit {0}
MovesNone (event.Abandon segment) = ⊥
MovesNone (event.Refill arena) = ⊥

free_holders : (s : State) (w : ℕ) (e : Event) (b : Bool) (a : Answer)
    → a ≡ (if b then answer.Done else answer.Parted)
    → (successor s w e answer.Done).holders ≡ s.holders
    → (successor s w e answer.Parted).holders ≡ s.holders
    → (successor s w e a).holders ≡ s.holders
free_holders s w e true a is h k = ap (λ x. (successor s w e x).holders) is ∙ h
free_holders s w e false a is h k = ap (λ x. (successor s w e x).holders) is ∙ k

served_holders : (s : State) (w : ℕ) (e : Event) (a : Answer) → MovesNone e → IsServed s w e a
    → (successor s w e a).holders ≡ s.holders
served_holders s w (event.Alloc actor arena bytes) a m g =
    ap (λ x. (successor s w (event.Alloc actor arena bytes) x).holders) g.1
served_holders s w (event.Free actor handle) a m is =
    free_holders s w (event.Free actor handle) (holds s w handle.place.segment) a is refl refl
served_holders s w event.Deliver a m is = ap (λ x. (successor s w event.Deliver x).holders) is
served_holders s w (event.Take segment) a m is =
    ap (λ x. (successor s w (event.Take segment) x).holders) is
served_holders s w event.Collect a m is = ap (λ x. (successor s w event.Collect x).holders) is
served_holders s w (event.Read actor handle index) a m is =
    ap (λ x. (successor s w (event.Read actor handle index) x).holders) is
served_holders s w (event.Write actor handle index value) a m is =
    ap (λ x. (successor s w (event.Write actor handle index value) x).holders) is
served_holders s w (event.Look actor place) a m g =
    ap (λ x. (successor s w (event.Look actor place) x).holders) g.1
served_holders s w (event.Abandon segment) a m is = absurd m
served_holders s w (event.Refill arena) a m g = absurd m

-- a step by such an event leaves who holds what
pub holders_kept : (s t : State) (w : ℕ) (e : Event) (a : Answer) → MovesNone e → Step s w e a t
    → t.holders ≡ s.holders
holders_kept s t w e a m h =
    elim (step_cases s w e a t h) [
      | inl is ↦ ap (λ x. x.holders) is.after ∙ served_holders s w e a m is.serves
      | inr is ↦ ap (λ x. x.holders) is.same
    ]

-- so does one that is refused
pub holders_same : (holders : List (Option ℕ)) (s t : State) → t.holders ≡ s.holders
    → AreHolders holders s → AreHolders holders t
holders_same holders s t e h segment =
    h segment ∙ ap (λ hs. worker_in (slice_index_or hs segment fresh)) (sym e)

-- a list without an entry any more, whether or not it had one
put_none : (hs : List (Option ℕ)) (n k : ℕ) → k ≡ n
    → slice_index_or (slice_set hs n None) k None ≡ None
put_none hs n k e =
    elim (cases_lt n (length hs)) [
      | inl lt ↦ get_or-set_at hs n k None None e lt
      | inr ge ↦
          get_or_past (set hs n None) k None (omega (arith, length-set hs n None, ge, e))
    ]

-- a segment with an orphan's holder, whether or not there is such a segment
put_orphan : (hs : List Holder) (n k : ℕ) → k ≡ n
    → worker_in (slice_index_or (slice_set hs n orphan) k fresh) ≡ None
put_orphan hs n k e =
    elim (cases_lt n (length hs)) as
    (λ _. worker_in (slice_index_or (slice_set hs n orphan) k fresh) ≡ None) [
      | inl lt ↦ ap worker_in (get_or-set_at hs n k orphan fresh e lt)
      | inr ge ↦ ap worker_in
          (get_or_past (set hs n orphan) k fresh
          (omega (arith, length-set hs n orphan, ge, e)))
    ]

-- nobody holds the segment any more
pub holders_abandoned : (holders : List (Option ℕ)) (s t : State) (n : ℕ)
    → t.holders ≡ slice_set s.holders n orphan → AreHolders holders s
    → AreHolders (slice_set holders n None) t
holders_abandoned holders s t n e h k =
    elim (cases_eq k n) as
    (λ _. slice_index_or (slice_set holders n None) k None
    ≡ worker_in (slice_index_or t.holders k fresh)) [
      | inl same ↦
          put_none holders n k same ∙ sym (put_orphan s.holders n k same)
          ∙ ap (λ hs. worker_in (slice_index_or hs k fresh)) (sym e)
      | inr ne ↦
          get_or-set_other holders n k None None ne ∙ h k
          ∙ ap worker_in (sym (get_or-set_other s.holders n k orphan fresh ne))
          ∙ ap (λ hs. worker_in (slice_index_or hs k fresh)) (sym e)
    ]

-- the worker holds the segment now
pub holders_adopted : (holders : List (Option ℕ)) (s t : State) (w n : ℕ)
    → t.holders ≡ slice_set s.holders n (held w) → n < length holders → n < length s.holders
    → AreHolders holders s
    → AreHolders (slice_set holders n (Some w)) t
holders_adopted holders s t w n e inside below h k =
    elim (cases_eq k n) as
    (λ _. slice_index_or (slice_set holders n (Some w)) k None
    ≡ worker_in (slice_index_or t.holders k fresh)) [
      | inl same ↦
          get_or-set_at holders n k (Some w) None same inside
          ∙ ap worker_in (sym (get_or-set_at s.holders n k (held w) fresh same below))
          ∙ ap (λ hs. worker_in (slice_index_or hs k fresh)) (sym e)
      | inr ne ↦
          get_or-set_other holders n k (Some w) None ne ∙ h k
          ∙ ap worker_in (sym (get_or-set_other s.holders n k (held w) fresh ne))
          ∙ ap (λ hs. worker_in (slice_index_or hs k fresh)) (sym e)
    ]
