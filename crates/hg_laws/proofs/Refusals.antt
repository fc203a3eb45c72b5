-- What refuses an event answers a refusal.
use Rattle.std.proofs.Common.{◌≡◌, ℕ, Bool, true, false, cond, not, ◌&&◌, ◌∷◌, []}
use Rattle.std.proofs.Common.{if◌then◌else◌, List, length, Option, Some, None, refl, sym, ap, subst}
use Rattle.std.proofs.Common.{◌∙◌, nat_lt, is_none, is_some}
use Rattle.std.proofs.lemmas.Bool.{true≢false}
use Rattle.std.proofs.lemmas.Option.{none-some}
use Rattle.hg_place.specs.declared.Right.{Right}
use Rattle.hg_place.specs.declared.Handle.{Handle}
use Rattle.hg_machine.specs.declared.Event.{Event}
use Rattle.hg_machine.specs.declared.Event.TheVariants as event
use Rattle.hg_machine.specs.declared.Answer.{Answer}
use Rattle.hg_machine.specs.declared.Answer.TheVariants as answer
use Rattle.hg_machine.specs.declared.Rule.{Rule}
use Rattle.hg_machine.specs.declared.AllocVerdict.{AllocVerdict}
use Rattle.hg_machine.specs.declared.AllocVerdict.TheVariants as alloc
use Rattle.hg_machine.specs.First.{first_of}
use Rattle.hg_machine.specs.State.{State}
use Rattle.hg_machine.specs.Refusal.{refusal, denial_or, alloc_refusal, reach_refusal}
use Rattle.hg_machine.specs.Request.{alloc_verdict, words_for}
use Rattle.hg_machine.specs.Room.{has_room}
use Rattle.hg_machine.specs.Charge.{charge}
use Rattle.hg_machine.specs.Served.{IsServed}
use Rattle.hg_machine.specs.Steps.{Step}
use Rattle.hg_machine.proofs.Cases.{Served, Refused, step_cases}
use Rattle.hg_place.specs.declared.Right.TheVariants as right
use Rattle.hg_place.specs.Places.{number_of}
use Rattle.hg_machine.specs.Life.{contents_of}
use Rattle.hg_machine.specs.State.{record_at, hand_of}
use Rattle.hg_machine.specs.Holders.{holds, next_of}
use Rattle.hg_machine.specs.Denial.{denial}
use Rattle.std.proofs.Common.{inl, inr, max}
use Rattle.hg_laws.specs.Asked.{is_refusal}

abbrev Refuses : Answer → Type 0
Refuses a = is_refusal a ≡ true

one : (b : Bool) (x r : Answer) (rest : Option Answer) → cond b (Some x) rest ≡ Some r → Refuses x → (rest ≡ Some r → Refuses r) → Refuses r
one true x r rest e here later = let same : x ≡ r = cc in subst Refuses same here
one false x r rest e here later = later e

last : (b : Bool) (x r : Answer) → first_of ((b, x) ∷ []) ≡ Some r → Refuses x → Refuses r
last b x r e here = one b x r None e here (λ z. absurd (none-some r z))

two : (b c : Bool) (x y r : Answer) → first_of ((b, x) ∷ (c, y) ∷ []) ≡ Some r → Refuses x → Refuses y → Refuses r
two b c x y r e first second = one b x r (first_of ((c, y) ∷ [])) e first (λ z. last c y r z second)

denied : (o : Option Rule) (reasons : List (Bool × Answer)) (r : Answer) → denial_or o reasons ≡ Some r → (first_of reasons ≡ Some r → Refuses r) → Refuses r
denied (Some x) reasons r e later = let same : answer.Denied x ≡ r = cc in subst Refuses same refl
denied None reasons r e later = later e

no_room : (b : Bool) (r : Answer) → (if b then None else Some answer.NoRoom) ≡ Some r → Refuses r
no_room true r e = absurd (none-some r e)
no_room false r e = let same : answer.NoRoom ≡ r = cc in subst Refuses same refl

no_block : (s : State) (w arena : ℕ) (v : AllocVerdict) (r : Answer) → alloc_refusal s w arena v ≡ Some r → Refuses r
no_block s w arena (alloc.Denied x) r e = let same : answer.Denied x ≡ r = cc in subst Refuses same refl
no_block s w arena alloc.TooLarge r e = let same : answer.TooLarge ≡ r = cc in subst Refuses same refl
no_block s w arena (alloc.Fits size) r e = no_room (has_room s w arena size) r e

no_reach : (s : State) (w actor : ℕ) (right : Right) (handle : Handle) (index : ℕ) (r : Answer) → reach_refusal s w actor right handle index ≡ Some r → Refuses r
no_reach s w actor right handle index r e =
    let away = not (holds s w handle.place.segment) in
    let past = not (nat_lt index (length (contents_of (record_at s (number_of handle.place)).life))) in
    denied (denial s actor right handle.place handle.generation) ((away, answer.Elsewhere) ∷ (past, answer.OutOfBlock) ∷ []) r e
    (λ z. two away past answer.Elsewhere answer.OutOfBlock r z refl refl)

pub refused_is : (s : State) (w : ℕ) (e : Event) (r : Answer) → refusal s w e ≡ Some r → Refuses r
refused_is s w (event.Alloc actor arena bytes) r e = no_block s w arena (alloc_verdict s.policy actor.0 arena (words_for bytes) (charge s w actor.0)) r e
refused_is s w (event.Free actor handle) r e =
    let busy = not (holds s w handle.place.segment) && is_some (hand_of s w) in
    denied (denial s actor.0 right.Free handle.place handle.generation) ((busy, answer.Busy) ∷ []) r e (λ z. last busy answer.Busy r z refl)
refused_is s w event.Deliver r e = last (is_none (hand_of s w)) answer.NothingInHand r e refl
refused_is s w (event.Take segment) r e = last (not (holds s w segment)) answer.NotHeld r e refl
refused_is s w event.Collect r e = absurd (none-some r e)
refused_is s w (event.Read actor handle index) r e = no_reach s w actor.0 right.Read handle index r e
refused_is s w (event.Write actor handle index value) r e = no_reach s w actor.0 right.Write handle index r e
refused_is s w (event.Look actor place) r e =
    let away = not (holds s w place.segment) in
    denied (denial s actor.0 right.List place (max 1 (record_at s (number_of place)).generation)) ((away, answer.Elsewhere) ∷ []) r e (λ z. last away answer.Elsewhere r z refl)
refused_is s w (event.Abandon segment) r e = last (not (holds s w segment)) answer.NotHeld r e refl
refused_is s w (event.Refill arena) r e = last (is_none (next_of s arena)) answer.NoSegment r e refl

free_serves : (b : Bool) (a : Answer) → a ≡ (if b then answer.Done else answer.Parted) → is_refusal a ≡ false
free_serves true a e = ap is_refusal e
free_serves false a e = ap is_refusal e

-- and what serves it doesn't
pub served_is : (s : State) (w : ℕ) (e : Event) (a : Answer) → IsServed s w e a → is_refusal a ≡ false
served_is s w (event.Alloc actor arena bytes) a g = ap is_refusal g.1
served_is s w (event.Free actor handle) a is = free_serves _ a is
served_is s w event.Deliver a is = ap is_refusal is
served_is s w (event.Take segment) a is = ap is_refusal is
served_is s w event.Collect a is = ap is_refusal is
served_is s w (event.Read actor handle index) a is = ap is_refusal is
served_is s w (event.Write actor handle index value) a is = ap is_refusal is
served_is s w (event.Look actor place) a g = ap is_refusal g.1
served_is s w (event.Abandon segment) a is = ap is_refusal is
served_is s w (event.Refill arena) a g = ap is_refusal g.1

-- a step whose answer is no refusal was served
pub was_served : (s : State) (w : ℕ) (e : Event) (a : Answer) (new : State) → Step s w e a new → is_refusal a ≡ false → Served s w e a new
was_served s w e a new h plain = elim (step_cases s w e a new h) as (λ _. Served s w e a new) [
  | inl is ↦ is
  | inr is ↦ absurd (true≢false (sym (refused_is s w e a is.some) ∙ plain))
]

-- a step whose answer is a refusal was refused
pub was_refused : (s : State) (w : ℕ) (e : Event) (a : Answer) (new : State) → Step s w e a new → is_refusal a ≡ true → Refused s w e a new
was_refused s w e a new h shut = elim (step_cases s w e a new h) as (λ _. Refused s w e a new) [
  | inl is ↦ absurd (true≢false (sym shut ∙ served_is s w e a is.serves))
  | inr is ↦ is
]
