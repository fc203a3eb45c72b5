-- What is served was permitted, and what is permitted is not denied.
use Rattle.std.proofs.Common.{◌≡◌, ◌⊎◌, inl, inr, ℕ, ◌==◌, Bool, true, false, not, cond, is_some, max, Option, Some, None, refl, sym, ap, subst}
use Rattle.std.proofs.lemmas.Bool.{eq-eqb, and_parts}
use Rattle.hg_place.specs.declared.Handle.{Handle}
use Rattle.hg_place.specs.declared.Right.{Right}
use Rattle.hg_place.specs.declared.Right.TheVariants as right
use Rattle.hg_place.specs.Places.{number_of}
use Rattle.hg_machine.specs.declared.Answer.{Answer}
use Rattle.hg_machine.specs.declared.Answer.TheVariants as answer
use Rattle.hg_machine.specs.declared.Event.TheVariants as event
use Rattle.hg_machine.specs.declared.Row.{Row}
use Rattle.hg_machine.specs.declared.Rule.TheVariants as rule
use Rattle.hg_machine.specs.Life.{is_live, owner_of}
use Rattle.hg_machine.specs.State.{State, record_at}
use Rattle.hg_machine.specs.Policy.{Policy, is_tenant, arena_of, grants, forbids}
use Rattle.hg_machine.specs.Denial.{denial, slot_at, is_admitted}
use Rattle.hg_machine.specs.Served.{IsRow}
use Rattle.hg_machine.proofs.Allowed.{no_denial}
use Rattle.hg_laws.specs.Asked.{is_refusal}
use Rattle.hg_laws.specs.Integrity.{Permits}
use Rattle.hg_laws.specs.Permitted.{MayUse, ReadsArePermitted, WritesArePermitted, FreesArePermitted, LooksArePermitted, PermittedIsAllowed}
use Rattle.hg_laws.proofs.MachineFacts.{passes}
use Rattle.hg_laws.proofs.Refusals.{was_served}

-- where no rule denies it, it is permitted
may_use : (s : State) (actor : ℕ) (right : Right) (handle : Handle) → denial s actor right handle.place handle.generation ≡ None → MayUse s actor right handle
may_use s actor right handle none =
    let p = passes s.policy actor right handle.place.segment handle.generation (slot_at s (number_of handle.place)) none in
    record { lives = p.alive; names_it = sym p.generation; permits = p.permits }

pub reads_are_permitted : ReadsArePermitted
reads_are_permitted s w actor handle index value new h =
    may_use s actor.0 right.Read handle (no_denial _ _ (was_served s w (event.Read actor handle index) (answer.Value value) new h refl).none).0

pub writes_are_permitted : WritesArePermitted
writes_are_permitted s w actor handle index value new h =
    may_use s actor.0 right.Write handle (no_denial _ _ (was_served s w (event.Write actor handle index value) answer.Done new h refl).none).0

no_refusal : (a : Answer) → (a ≡ answer.Done) ⊎ (a ≡ answer.Parted) → is_refusal a ≡ false
no_refusal a given = elim given as (λ _. is_refusal a ≡ false) [ inl e ↦ ap is_refusal e | inr e ↦ ap is_refusal e ]

pub frees_are_permitted : FreesArePermitted
frees_are_permitted s w actor handle a new given h =
    may_use s actor.0 right.Free handle (no_denial _ _ (was_served s w (event.Free actor handle) a new h (no_refusal a given)).none).0

row_same : (a b : Row) → answer.Listed a ≡ answer.Listed b → a ≡ b
row_same a b e = cc

pub looks_are_permitted : LooksArePermitted
looks_are_permitted s w actor place row new h =
    let is = was_served s w (event.Look actor place) (answer.Listed row) new h refl in
    let told = subst (IsRow s place) (sym (row_same row is.serves.0 is.serves.1)) is.serves.2 in
    let p = passes s.policy actor.0 right.List place.segment (max 1 (record_at s (number_of place)).generation) (slot_at s (number_of place)) (no_denial _ _ is.none).0 in
    let here = sym told.stands in (
      told.stands,
      record {
        lives = subst (λ q. is_live (record_at s (number_of q)).life ≡ true) here p.alive;
        names_it = subst (λ q. row.handle.generation ≡ (record_at s (number_of q)).generation) here told.generation;
        permits = subst (λ q. Permits s.policy q.segment (owner_of (record_at s (number_of q)).life) actor.0 right.List) here p.permits;
      },
    )

-- a reason that doesn't hold is passed over
passed : {A : Type 0} (b : Bool) (r : A) (rest : Option A) → b ≡ true → rest ≡ None → cond (not b) (Some r) rest ≡ None
passed true r rest e none = none
passed false r rest e none = absurd (cc)

unbarred :
    {A : Type 0} (b : Bool) (r : A) (rest : Option A)
    → not b ≡ true → rest ≡ None → cond b (Some r) rest ≡ None
unbarred true r rest e none = absurd (cc)
unbarred false r rest e none = none

in_some : (p : Policy) (o : Option ℕ) (actor : ℕ) → is_admitted p o actor ≡ true → is_some o ≡ true
in_some p None actor e = absurd (cc)
in_some p (Some arena) actor e = refl

pub permitted_is_allowed : PermittedIsAllowed
permitted_is_allowed s actor right handle may =
    let at = number_of handle.place in
    let arena = arena_of s.policy handle.place.segment in
    let forbidden = forbids s.policy (owner_of (record_at s at).life) actor right in
    let lets = and_parts (not forbidden) _ may.permits.allowed in
    passed (is_tenant s.policy actor) rule.Stranger _ may.permits.tenant
    (passed (is_some arena) (rule.Stale 0) _ (in_some s.policy arena actor may.permits.admitted)
    (passed ((record_at s at).generation == handle.generation) (rule.Stale (record_at s at).generation) _ (eq-eqb _ _ (sym may.names_it))
    (passed (is_live (record_at s at).life) rule.AlreadyFreed _ may.lives
    (passed (is_admitted s.policy arena actor) rule.ForeignArena _ may.permits.admitted
    (unbarred forbidden rule.Forbidden _ lets.0
    (passed (grants s.policy (owner_of (record_at s at).life) actor right) rule.NotGranted None lets.1 refl))))))
