-- Where an arena doesn't admit the actor, some rule denies the event.
use Rattle.std.proofs.Common.{◌≡◌, ℕ, Bool, true, false, not, cond, List, []}
use Rattle.std.proofs.Common.{◌∷◌, Option, Some, None, unwrap_or, refl, sym, ap, subst}
use Rattle.std.proofs.Common.{◌∙◌, max}
use Rattle.std.proofs.lemmas.Bool.{true≢false, not_from_false}
use Rattle.std.proofs.lemmas.Option.{same_Some}
use Rattle.hg_place.specs.declared.Handle.{Handle}
use Rattle.hg_place.specs.declared.Place.{Place}
use Rattle.hg_place.specs.declared.Right.{Right}
use Rattle.hg_place.specs.declared.Right.TheVariants as right
use Rattle.hg_place.specs.Places.{number_of}
use Rattle.hg_machine.specs.declared.Event.{Event}
use Rattle.hg_machine.specs.declared.Event.TheVariants as event
use Rattle.hg_machine.specs.declared.Answer.{Answer}
use Rattle.hg_machine.specs.declared.Answer.TheVariants as answer
use Rattle.hg_machine.specs.declared.Rule.{Rule}
use Rattle.hg_machine.specs.declared.Rule.TheVariants as rule
use Rattle.hg_machine.specs.declared.AllocVerdict.{AllocVerdict}
use Rattle.hg_machine.specs.declared.AllocVerdict.TheVariants as alloc
use Rattle.hg_machine.specs.Policy.{Policy, is_tenant, arena_of, admits}
use Rattle.hg_machine.specs.State.{State, record_at}
use Rattle.hg_machine.specs.Denial.{is_admitted, denial, slot_at}
use Rattle.hg_machine.specs.Request.{size_of}
use Rattle.hg_machine.specs.Refusal.{refusal, alloc_refusal}
use Rattle.hg_machine.specs.Steps.{Step}
use Rattle.hg_machine.proofs.Cases.{refused_changes_nothing}
use Rattle.hg_machine.proofs.Suits.{number_some}
use Rattle.hg_machine.proofs.Preserves.{steps_keep_policy}
use Rattle.hg_laws.specs.Asked.{actor_of, IsDenied}
use Rattle.hg_laws.specs.Along.{AtEach}
use Rattle.hg_laws.specs.Arenas.{arena_asked, DeniedOutside, ArenasAreIsolated}
use Rattle.hg_laws.specs.Arenas.{UnadmittedGetNothing, BlocksLieInTheArena}
use Rattle.hg_laws.proofs.MachineFacts.{segment_is, passes, room_arena}
use Rattle.hg_laws.proofs.LivesLemmas.{denied_answer}
use Rattle.hg_laws.proofs.Refusals.{was_served}

-- a verdict on a block in such an arena denies it
outside : (s : State) (actor : ℕ) (right : Right) (place : Place) (expected : ℕ) → is_admitted s.policy (arena_of s.policy place.segment) actor ≡ false → denial s actor right place expected ≡ None → ⊥
outside s actor right place expected shut none =
    true≢false (sym (passes s.policy actor right place.segment expected (slot_at s (number_of place)) none).permits.admitted ∙ shut)

-- and so does one on an allocation there
alloc_outside : (b c : Bool) (x y : Rule) (v : AllocVerdict) → c ≡ true → (z : Rule) × (unwrap_or (cond b (Some (alloc.Denied x)) (cond c (Some (alloc.Denied y)) None)) v ≡ alloc.Denied z)
alloc_outside true c x y v e = (x, refl)
alloc_outside false true x y v e = (y, refl)
alloc_outside false false x y v e = absurd (true≢false (sym e))

step_outside : (s : State) (w : ℕ) (e : Event) (a : Answer) (new : State) → Step s w e a new → DeniedOutside s.policy e a
step_outside s w (event.Alloc actor arena bytes) a new h x same shut =
    let here : admits s.policy arena actor.0 ≡ false = ap (admits s.policy arena) (same_Some _ _ same) ∙ shut in
    let d = alloc_outside (not (is_tenant s.policy actor.0)) (not (admits s.policy arena actor.0)) rule.Stranger rule.ForeignArena _ (not_from_false _ here) in
    let why : refusal s w (event.Alloc actor arena bytes) ≡ Some (answer.Denied d.0) = ap (alloc_refusal s w arena) d.1 in
    (d.0, (refused_changes_nothing s new w (event.Alloc actor arena bytes) a (answer.Denied d.0) why h).0)
step_outside s w (event.Free actor handle) a new h x same shut =
    let here = ap (is_admitted s.policy (arena_of s.policy handle.place.segment)) (same_Some _ _ same) ∙ shut in
    denied_answer s w (event.Free actor handle) a new (denial s actor.0 right.Free handle.place handle.generation) _ refl (outside s actor.0 right.Free handle.place handle.generation here) h
step_outside s w (event.Read actor handle index) a new h x same shut =
    let here = ap (is_admitted s.policy (arena_of s.policy handle.place.segment)) (same_Some _ _ same) ∙ shut in
    denied_answer s w (event.Read actor handle index) a new (denial s actor.0 right.Read handle.place handle.generation) _ refl (outside s actor.0 right.Read handle.place handle.generation here) h
step_outside s w (event.Write actor handle index value) a new h x same shut =
    let here = ap (is_admitted s.policy (arena_of s.policy handle.place.segment)) (same_Some _ _ same) ∙ shut in
    denied_answer s w (event.Write actor handle index value) a new (denial s actor.0 right.Write handle.place handle.generation) _ refl (outside s actor.0 right.Write handle.place handle.generation here) h
step_outside s w (event.Look actor place) a new h x same shut =
    let here = ap (is_admitted s.policy (arena_of s.policy place.segment)) (same_Some _ _ same) ∙ shut in
    let expected = max 1 (record_at s (number_of place)).generation in
    denied_answer s w (event.Look actor place) a new (denial s actor.0 right.List place expected) _ refl (outside s actor.0 right.List place expected here) h
step_outside s w event.Deliver a new h x same shut = absurd (cc)
step_outside s w (event.Take segment) a new h x same shut = absurd (cc)
step_outside s w event.Collect a new h x same shut = absurd (cc)
step_outside s w (event.Abandon segment) a new h x same shut = absurd (cc)
step_outside s w (event.Refill arena) a new h x same shut = absurd (cc)

pub arenas_are_isolated : ArenasAreIsolated
arenas_are_isolated old [] [] new run = tt
arenas_are_isolated old [] (a ∷ rest) new run = tt
arenas_are_isolated old (e ∷ es) [] new run = tt
arenas_are_isolated old (e ∷ es) (a ∷ rest) new run =
    (step_outside old e.0 e.1 a run.0 run.1, subst (λ p. AtEach (DeniedOutside p) es rest) (steps_keep_policy old e.0 e.1 a run.0 run.1) (arenas_are_isolated run.0 es rest new run.2))

shut_out : (p : Policy) (actor : ℕ) (o : Option ℕ) → ((arena : ℕ) → admits p arena actor ≡ false) → is_admitted p o actor ≡ false
shut_out p actor None h = refl
shut_out p actor (Some arena) h = h arena

get_nothing : (p : Policy) (actor : ℕ) (events : List (ℕ × Event)) (answers : List Answer) → ((arena : ℕ) → admits p arena actor ≡ false)
    → AtEach (DeniedOutside p) events answers → AtEach (λ e a. actor_of e ≡ Some actor → IsDenied a) events answers
get_nothing p actor [] [] h each = tt
get_nothing p actor [] (a ∷ rest) h each = tt
get_nothing p actor (e ∷ es) [] h each = tt
get_nothing p actor (e ∷ es) (a ∷ rest) h each = (λ same. each.0 actor same (shut_out p actor (arena_asked p e.1) h), get_nothing p actor es rest h each.1)

pub unadmitted_get_nothing : UnadmittedGetNothing
unadmitted_get_nothing old events answers new actor h run = get_nothing old.policy actor events answers h (arenas_are_isolated old events answers new run)

block_same : (h k : Handle) → answer.Block h ≡ answer.Block k → h ≡ k
block_same h k e = cc

pub blocks_lie_in_the_arena : BlocksLieInTheArena
blocks_lie_in_the_arena s w actor arena bytes handle new h =
    let is = was_served s w (event.Alloc actor arena bytes) (answer.Block handle) new h refl in
    let same : handle ≡ is.serves.0 = block_same _ _ is.serves.1 in
    subst (λ k. arena_of s.policy k.place.segment ≡ Some arena) (sym same)
    (ap (arena_of s.policy) (sym (segment_is is.serves.0.place)) ∙ number_some arena _ (room_arena s w arena (size_of bytes) (number_of is.serves.0.place) is.serves.2.room))
