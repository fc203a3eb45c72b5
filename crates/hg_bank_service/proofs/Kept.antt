-- Each event leaves a worker its policy and its number.
use Rattle.std.proofs.Common.{◌≡◌, ℕ, Option, None, Some, MatchOption, ap, subst, sym, ◌∙◌}
use Rattle.std.proofs.lemmas.Option.{same_Some}
use Rattle.hg_machine.specs.declared.Answer.{Answer}
use Rattle.hg_machine.specs.declared.Event.{Event}
use Rattle.hg_machine.specs.declared.Event.TheVariants as event
use Rattle.hg_machine.specs.Policy.{Policy}
use Rattle.hg_worker.specs.declared.state.WorkerState.{WorkerState}
use Rattle.hg_hosted.specs.declared.worker.HostedWorker.{HostedWorker}
use Rattle.hg_hosted.specs.Serving.{Serves}
use Rattle.hg_hosted.specs.Steps.{Does}
use Rattle.hg_hosted.specs.Waiting.{Waits}
use Rattle.hg_hosted.specs.Has.{Has}
use Rattle.hg_bank_service.specs.Has.{IsNumbered}

abbrev pub KeepsIts : WorkerState → WorkerState → Type 0
KeepsIts old new = (new.policy ≡ old.policy) × (new.number ≡ old.number)

pub does_keep : (e : Event) (a : Answer) (old new : WorkerState) → Does e a old new
    → KeepsIts old new
does_keep (event.Alloc actor arena bytes) a old new d = (d.rest.policy, d.rest.number)
does_keep (event.Free actor handle) a old new d = (d.rest.0, d.rest.1)
does_keep event.Deliver a old new d = (d.rest.0, d.rest.1)
does_keep (event.Take segment) a old new d = (d.rest.policy, d.rest.number)
does_keep event.Collect a old new d = (d.rest.policy, d.rest.number)
does_keep (event.Read actor handle index) a old new d = (d.rest.policy, d.rest.number)
does_keep (event.Write actor handle index value) a old new d = (d.rest.policy, d.rest.number)
does_keep (event.Look actor place) a old new d = (d.rest.policy, d.rest.number)
does_keep (event.Abandon segment) a old new d = (d.rest.policy, d.rest.number)
does_keep (event.Refill arena) a old new d = (d.rest.policy, d.rest.number)

-- a worker that serves so is of the policy and number that it was of
pub serves_keep : {Do : WorkerState → WorkerState → Type 0} {was next : HostedWorker}
    (policy : Policy) (number : ℕ)
    → ((old new : WorkerState) → Do old new → KeepsIts old new) → Serves Do was next
    → Has (IsNumbered policy number) was → Has (IsNumbered policy number) next
serves_keep policy number keeps s has own is =
    let kept = keeps s.before.value s.after.value s.does in
    let it = has s.before s.was in
    subst (λ o. IsNumbered policy number o.value) (same_Some s.after own (sym s.is ∙ is))
    record { serves = kept.0 ∙ it.serves; number_is = kept.1 ∙ it.number_is }

pub waits_keep : (e : Event) (old new : WorkerState) → Waits e old new → KeepsIts old new
waits_keep e old new w = (ap (λ (s : WorkerState). s.policy) w.same, ap (λ (s : WorkerState). s.number) w.same)

-- whether it served or found that another call has what it needs
pub answered_keep : (e : Event) (o : Option Answer) (was next : HostedWorker) (policy : Policy)
    (number : ℕ)
    → MatchOption o (Serves (Waits e) was next) (λ a. Serves (Does e a) was next)
    → Has (IsNumbered policy number) was → Has (IsNumbered policy number) next
answered_keep e None was next policy number s = serves_keep policy number (waits_keep e) s
answered_keep e (Some a) was next policy number s = serves_keep policy number (does_keep e a) s
