-- When a step is served.
use Rattle.std.proofs.Common.{◌≡◌, ℕ, ◌+◌, ◌*◌, Bool, true, false, cond, not, nat_le, if◌then◌else◌, Option, Some, None, MatchOption, unwrap_or, refl, sym, ap, subst, ◌∙◌}
use Rattle.hg_size.specs.Sizes.{size_for}
use Rattle.hg_place.specs.declared.Actor.{Actor}
use Rattle.hg_place.specs.declared.Handle.{Handle}
use Rattle.hg_machine.specs.declared.Event.{Event}
use Rattle.hg_machine.specs.declared.Event.TheVariants as event
use Rattle.hg_machine.specs.declared.Answer.{Answer}
use Rattle.hg_machine.specs.declared.Answer.TheVariants as answer
use Rattle.hg_machine.specs.declared.Rule.TheVariants as rule
use Rattle.hg_machine.specs.declared.AllocVerdict.{AllocVerdict}
use Rattle.hg_machine.specs.declared.AllocVerdict.TheVariants as alloc
use Rattle.hg_machine.specs.Policy.{Policy, is_tenant, limit_of, admits}
use Rattle.hg_machine.specs.State.{State}
use Rattle.hg_machine.specs.Charge.{charge}
use Rattle.hg_machine.specs.Room.{has_room}
use Rattle.hg_machine.specs.Request.{words_for, size_of, verdict_on_size, alloc_verdict}
use Rattle.hg_machine.specs.Changes.{given_out}
use Rattle.hg_machine.specs.Served.{IsServed, IsNext}
use Rattle.hg_machine.specs.Refusal.{refusal, alloc_refusal}
use Rattle.hg_machine.specs.Steps.{Step, successor}

matched : (o : Option Answer) (P : Type 0) (Q : Answer → Type 0) → o ≡ None → P → MatchOption o P Q
matched None P Q e p = p
matched (Some a) P Q e p = absurd (cc)

-- an event that nothing refuses, answered as it is served
pub served_step : (s : State) (w : ℕ) (e : Event) (a : Answer) (new : State) → refusal s w e ≡ None → IsServed s w e a → new ≡ successor s w e a → Step s w e a new
served_step s w e a new none is after = matched (refusal s w e) _ _ none (is, after)

fits : (b : Bool) (n size : ℕ) → (if b then alloc.Fits n else alloc.Denied rule.OverLimit) ≡ alloc.Fits size → n ≡ size
fits true n size e = cc
fits false n size e = absurd (cc)

on_size : (policy : Policy) (actor charge : ℕ) (o : Option ℕ) (size : ℕ) → verdict_on_size policy actor charge o ≡ alloc.Fits size → o ≡ Some size
on_size policy actor charge None size e = absurd (cc)
on_size policy actor charge (Some n) size e = ap Some (fits (nat_le (charge + 8 * n) (limit_of policy actor)) n size e)

past_denials : (b c : Bool) (v : AllocVerdict) (size : ℕ) → unwrap_or (cond (not b) (Some (alloc.Denied rule.Stranger)) (cond (not c) (Some (alloc.Denied rule.ForeignArena)) None)) v ≡ alloc.Fits size → (b ≡ true) × (v ≡ alloc.Fits size)
past_denials false c v size e = absurd (cc)
past_denials true false v size e = absurd (cc)
past_denials true true v size e = (refl, e)

-- what fits is a tenant's, and of the size that the words take
pub fits_parts : (policy : Policy) (actor arena words charge size : ℕ) → alloc_verdict policy actor arena words charge ≡ alloc.Fits size
    → (is_tenant policy actor ≡ true) × (size_for words ≡ Some size)
fits_parts policy actor arena words charge size e =
    let p = past_denials (is_tenant policy actor) (admits policy arena actor) (verdict_on_size policy actor charge (size_for words)) size e in
    (p.0, on_size policy actor charge (size_for words) size p.1)

-- an allocation that fits, at a place with room
pub alloc_served : (s : State) (w : ℕ) (actor : Actor) (arena bytes size : ℕ) (handle : Handle) (new : State)
    → alloc_verdict s.policy actor.0 arena (words_for bytes) (charge s w actor.0) ≡ alloc.Fits size
    → has_room s w arena size ≡ true → IsNext s w arena size handle → new ≡ given_out s actor.0 handle size
    → Step s w (event.Alloc actor arena bytes) (answer.Block handle) new
alloc_served s w actor arena bytes size handle new verdict room next after =
    let size_is : size_of bytes ≡ size = ap (λ o. unwrap_or o 0) (fits_parts s.policy actor.0 arena (words_for bytes) (charge s w actor.0) size verdict).1 in
    served_step s w (event.Alloc actor arena bytes) (answer.Block handle) new
    (ap (alloc_refusal s w arena) verdict ∙ ap (λ b. if b then None else Some answer.NoRoom) room)
    (handle, refl, subst (λ n. IsNext s w arena n handle) (sym size_is) next)
    (after ∙ ap (given_out s actor.0 handle) (sym size_is))
