-- A core that isn't there is answered for as one that just opened.
use Rattle.std.proofs.Common.{◌≡◌, ◌≢◌, ℕ, ◌+◌, ◌*◌, ◌==◌, ◌&&◌, ◌≤◌, Bool, true, false, not, cond}
use Rattle.std.proofs.Common.{max, if◌then◌else◌, List, [], ◌∷◌, length, count_by, is_none, is_some}
use Rattle.std.proofs.Common.{Option, Some, None, refl, sym, ap, ◌∙◌, arith}
use Rattle.std.proofs.lemmas.Bool.{ne_eqb, true≢false}
use Rattle.std.proofs.lemmas.List.Sums.{sum_by-cons}
use Rattle.hg_choice.proofs.MaskedSteps.{refused_step}
use Rattle.hg_place.specs.declared.Right.{Right}
use Rattle.hg_place.specs.declared.Right.TheVariants as right
use Rattle.hg_place.specs.declared.Place.{Place}
use Rattle.hg_place.specs.Places.{number_of, segment_of_page}
use Rattle.hg_machine.specs.declared.Answer.{Answer}
use Rattle.hg_machine.specs.declared.Answer.TheVariants as answer
use Rattle.hg_machine.specs.declared.Event.{Event}
use Rattle.hg_machine.specs.declared.Event.TheVariants as event
use Rattle.hg_machine.specs.declared.Rule.{Rule}
use Rattle.hg_machine.specs.declared.Rule.TheVariants as rule
use Rattle.hg_machine.specs.Denial.{denial, denial_on}
use Rattle.hg_machine.specs.First.{first_of}
use Rattle.hg_machine.specs.Holders.{holds, is_held_by}
use Rattle.hg_machine.specs.Life.{Record, never_used, is_live, owner_of}
use Rattle.hg_machine.specs.Policy.{Policy, is_tenant, arena_of}
use Rattle.hg_machine.specs.Refusal.{refusal, denial_or}
use Rattle.hg_machine.specs.State.{State, fresh, record_at, class_at, pages_in, opening}
use Rattle.hg_machine.specs.Steps.{Step, successor}
use Rattle.hg_machine.specs.Sweeps.{is_idle}
use Rattle.hg_machine.proofs.Opening.{all_same}
use Rattle.hg_machine.proofs.Serves.{served_step}
use Rattle.hg_bank.specs.Laws.{AbsentIsUnused}
use Rattle.hg_bank.specs.Requests.{missing, absent}

-- a stranger is denied as one, and a tenant for the generation
rule_of : (b c d : Bool) (later : Option Rule) (reasons : List (Bool × Answer)) → d ≡ false
    → denial_or (cond (not b) (Some rule.Stranger)
    (cond (not c) (Some (rule.Stale 0)) (cond (not d) (Some (rule.Stale 0)) later))) reasons
    ≡ Some (if b then answer.Denied (rule.Stale 0) else answer.Denied rule.Stranger)
rule_of false c d later reasons e = refl
rule_of true false d later reasons e = refl
rule_of true true false later reasons e = refl
rule_of true true true later reasons e = absurd (true≢false e)

abbrev denial_by : Policy → ℕ → Right → ℕ → ℕ → Record → Option Rule
denial_by policy actor right segment expected r =
    denial_on policy actor right segment expected
    (record { generation = r.generation; owner = owner_of r.life; live = is_live r.life })

none_there : (policy : Policy) (actor segment expected : ℕ) (right : Right)
    (reasons : List (Bool × Answer)) → 0 ≢ expected
    → denial_or (denial_by policy actor right segment expected never_used) reasons
    ≡ Some (missing policy actor)
none_there policy actor segment expected right reasons ne =
    rule_of (is_tenant policy actor) (is_some (arena_of policy segment)) (0 == expected) _ reasons
    (ne_eqb 0 expected ne)

unused_at : (policy : Policy) (n : ℕ) → record_at (opening policy) n ≡ never_used
unused_at policy n = all_same (length policy.segments * 8192) n never_used

denied : (policy : Policy) (actor expected : ℕ) (right : Right) (place : Place)
    (reasons : List (Bool × Answer)) → 1 ≤ expected
    → denial_or (denial (opening policy) actor right place expected) reasons
    ≡ Some (missing policy actor)
denied policy actor expected right place reasons some =
    ap (λ r. denial_or (denial_by policy actor right place.segment expected r) reasons)
    (unused_at policy (number_of place))
    ∙ none_there policy actor place.segment expected right reasons (λ e. absurd (omega arith))

unheld : (policy : Policy) (worker segment : ℕ) → holds (opening policy) worker segment ≡ false
unheld policy worker segment =
    ap (is_held_by worker) (all_same (length policy.segments) segment fresh)

not_held : (policy : Policy) (worker segment : ℕ)
    → first_of ((not (holds (opening policy) worker segment), answer.NotHeld) ∷ [])
    ≡ Some answer.NotHeld
not_held policy worker segment =
    ap (λ b. first_of ((not b, answer.NotHeld) ∷ [])) (unheld policy worker segment)

abbrev once : Bool → ℕ
once b = cond b 1 0

none_counted : (p : ℕ → Bool) (xs : List ℕ) → ((n : ℕ) → p n ≡ false) → count_by p xs ≡ 0
none_counted p [] none = refl
none_counted p (x ∷ xs) none =
    let all : count_by p (x ∷ xs) ≡ once (p x) + count_by p xs =
    sum_by-cons (λ y. cond (p y) 1 0) x xs in
    let here : once (p x) ≡ 0 = ap once (none x) in
    let rest = none_counted p xs none in
    omega arith

-- a refusal leaves the core as it opened
refused : (policy : Policy) (worker : ℕ) (e : Event)
    → refusal (opening policy) worker e ≡ Some (absent policy e)
    → (new : State) × Step (opening policy) worker e (absent policy e) new
refused policy worker e some = (
  opening policy,
  refused_step (opening policy) worker e (absent policy e) (opening policy) some refl,
)

pub absent_is_unused : AbsentIsUnused
absent_is_unused policy worker (event.Free actor handle) names =
    refused policy worker (event.Free actor handle)
    (denied policy actor.0 handle.generation right.Free handle.place _ handle.given_out)
absent_is_unused policy worker event.Deliver names =
    refused policy worker event.Deliver
    (ap (λ o. first_of ((is_none o, answer.NothingInHand) ∷ []))
    (all_same policy.workers worker None))
absent_is_unused policy worker (event.Take segment) names =
    refused policy worker (event.Take segment) (not_held policy worker segment)
absent_is_unused policy worker event.Collect names =
    let s = opening policy in
    let none = none_counted
    (λ page. holds s worker (segment_of_page page) && (is_idle s page && is_some (class_at s page)))
    (pages_in s)
    (λ page. ap (λ b. b && (is_idle s page && is_some (class_at s page)))
    (unheld policy worker (segment_of_page page))) in (
      successor s worker event.Collect (answer.Pages 0),
      served_step s worker event.Collect (answer.Pages 0) _ refl (sym (ap answer.Pages none)) refl,
    )
absent_is_unused policy worker (event.Read actor handle index) names =
    refused policy worker (event.Read actor handle index)
    (denied policy actor.0 handle.generation right.Read handle.place _ handle.given_out)
absent_is_unused policy worker (event.Write actor handle index value) names =
    refused policy worker (event.Write actor handle index value)
    (denied policy actor.0 handle.generation right.Write handle.place _ handle.given_out)
absent_is_unused policy worker (event.Look actor place) names =
    let away = (not (holds (opening policy) worker place.segment), answer.Elsewhere) ∷ [] in
    refused policy worker (event.Look actor place)
    (ap (λ r. denial_or
    (denial_by policy actor.0 right.List place.segment (max 1 r.generation) r) away)
    (unused_at policy (number_of place))
    ∙ none_there policy actor.0 place.segment 1 right.List away (λ e. absurd (omega arith)))
absent_is_unused policy worker (event.Abandon segment) names =
    refused policy worker (event.Abandon segment) (not_held policy worker segment)
absent_is_unused policy worker (event.Alloc actor arena bytes) names =
    absurd (true≢false (sym names))
absent_is_unused policy worker (event.Refill arena) names = absurd (true≢false (sym names))
