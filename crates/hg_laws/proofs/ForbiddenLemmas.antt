-- A forbidden right is denied at each step of a run.
use Rattle.std.proofs.Common.{◌≡◌, ◌≢◌, ℕ, max, Bool, true, List, Option, Some, None, refl, sym, subst}
use Rattle.std.proofs.lemmas.Option.{same_Some}
use Rattle.hg_place.specs.declared.Place.{Place}
use Rattle.hg_place.specs.declared.Right.{Right}
use Rattle.hg_place.specs.declared.Right.TheVariants as right
use Rattle.hg_place.specs.Places.{number_of}
use Rattle.hg_machine.specs.declared.Event.{Event}
use Rattle.hg_machine.specs.declared.Event.TheVariants as event
use Rattle.hg_machine.specs.declared.Answer.{Answer}
use Rattle.hg_machine.specs.declared.Answer.TheVariants as answer
use Rattle.hg_machine.specs.declared.Rule.{Rule}
use Rattle.hg_machine.specs.Policy.{Policy, forbids}
use Rattle.hg_machine.specs.Life.{owner_of}
use Rattle.hg_machine.specs.State.{State, record_at}
use Rattle.hg_machine.specs.Denial.{denial}
use Rattle.hg_machine.specs.Refusal.{refusal, denial_or}
use Rattle.hg_machine.specs.Steps.{Step}
use Rattle.hg_machine.proofs.Cases.{refused_changes_nothing}
use Rattle.hg_machine.proofs.Unforbidden.{forbidden_is_denied}
use Rattle.hg_laws.specs.Asked.{actor_of, IsDenied}
use Rattle.hg_laws.specs.Forbidden.{right_of, place_of, ForbiddenIsNeverServed}
use Rattle.hg_laws.proofs.MachineFacts.{policy_kept}

denied_step :
    (s : State) (w : ℕ) (e : Event) (a : Answer) (next : State) (o : Option Rule)
    (reasons : List (Bool × Answer))
    → refusal s w e ≡ denial_or o reasons → o ≢ None → Step s w e a next
    → IsDenied a × (next ≡ s)
denied_step s w e a next None reasons is some h = absurd (some refl)
denied_step s w e a next (Some rule) reasons is some h =
    let refused = refused_changes_nothing s next w e a (answer.Denied rule) is h in
    ((rule, refused.0), refused.1)

-- the right is forbidden to the actor on blocks of this block's owner
abbrev Bars : State → ℕ → Right → Place → Type 0
Bars s actor right place =
    forbids s.policy (owner_of (record_at s (number_of place)).life) actor right ≡ true

bars_same :
    (s : State) {a b : ℕ} {r q : Right} {p at : Place}
    → Some a ≡ Some b → Some r ≡ Some q → Some p ≡ Some at → Bars s b q at → Bars s a r p
bars_same s {a} {b} {r} {q} {p} {at} ea er ep h =
    subst (λ x. Bars s x r p) (sym (same_Some _ _ ea))
    (subst (λ x. Bars s b x p) (sym (same_Some _ _ er))
    (subst (λ x. Bars s b q x) (sym (same_Some _ _ ep)) h))

-- what is barred is denied, where the event's first reason is this denial
barred_step :
    (s : State) (w : ℕ) (e : Event) (a : Answer) (next : State) (actor : ℕ) (right : Right)
    (place : Place) (expected : ℕ) (reasons : List (Bool × Answer))
    → refusal s w e ≡ denial_or (denial s actor right place expected) reasons
    → Bars s actor right place → Step s w e a next → IsDenied a × (next ≡ s)
barred_step s w e a next actor right place expected reasons is bars h =
    denied_step s w e a next (denial s actor right place expected) reasons is
    (forbidden_is_denied s actor right place expected bars) h

never :
    (s : State) (w : ℕ) (e : Event) (a : Answer) (next : State) (actor : ℕ) (r : Right)
    (place : Place)
    → actor_of e ≡ Some actor → right_of e ≡ Some r → place_of e ≡ Some place
    → Bars s actor r place → Step s w e a next → IsDenied a × (next ≡ s)
never s w (event.Free by handle) a next actor r place ea er ep bars h =
    barred_step s w (event.Free by handle) a next by.0 right.Free handle.place handle.generation _
    refl (bars_same s ea er ep bars) h
never s w (event.Read by handle index) a next actor r place ea er ep bars h =
    barred_step s w (event.Read by handle index) a next by.0 right.Read handle.place
    handle.generation _ refl (bars_same s ea er ep bars) h
never s w (event.Write by handle index value) a next actor r place ea er ep bars h =
    barred_step s w (event.Write by handle index value) a next by.0 right.Write handle.place
    handle.generation _ refl (bars_same s ea er ep bars) h
never s w (event.Look by at) a next actor r place ea er ep bars h =
    barred_step s w (event.Look by at) a next by.0 right.List at
    (max 1 (record_at s (number_of at)).generation) _ refl (bars_same s ea er ep bars) h
never s w (event.Alloc by arena bytes) a next actor r place ea er ep bars h = absurd (cc)
never s w event.Deliver a next actor r place ea er ep bars h = absurd (cc)
never s w (event.Take segment) a next actor r place ea er ep bars h = absurd (cc)
never s w event.Collect a next actor r place ea er ep bars h = absurd (cc)
never s w (event.Abandon segment) a next actor r place ea er ep bars h = absurd (cc)
never s w (event.Refill arena) a next actor r place ea er ep bars h = absurd (cc)

pub forbidden_is_never_served : ForbiddenIsNeverServed
forbidden_is_never_served old events answers s next w e a actor r place run ea er ep bars h =
    let owner = owner_of (record_at s (number_of place)).life in
    never s w e a next actor r place ea er ep
    (subst (λ (p : Policy). forbids p owner actor r ≡ true)
    (sym (policy_kept old events answers s run)) bars) h
