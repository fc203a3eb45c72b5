-- Verdicts with and without what is forbidden.
use Rattle.std.proofs.Common.{◌≡◌, ◌≢◌, ℕ, ◌==◌, ◌&&◌, inl, inr, Bool, true, false, not, [], ◌∷◌, Option, Some, None, is_some, is_none, refl, sym, ap, ◌∙◌}
use Rattle.std.proofs.lemmas.Bool.{cases_Bool}
use Rattle.hg_place.specs.declared.Right.{Right}
use Rattle.hg_place.specs.Places.{number_of}
use Rattle.hg_place.specs.Slots.{Slot}
use Rattle.hg_machine.specs.declared.Rule.{Rule}
use Rattle.hg_machine.specs.declared.Rule.TheVariants as rule
use Rattle.hg_machine.specs.First.{first_of}
use Rattle.hg_machine.specs.Policy.{Policy, is_tenant, arena_of, grants, forbids}
use Rattle.hg_machine.specs.Denial.{is_admitted, slot_at}
use Rattle.hg_machine.specs.ForbiddenLaws.{denial_by_grants, forbidden_else, NothingForbidden, ForbiddenIsTold, UnforbiddenIsGranted, ForbiddingOnlyTakes, ForbiddenIsDenied, OwnIsUnforbidden}

-- the verdict, by whether each rule holds
abbrev chain : Bool → Bool → ℕ → Bool → Bool → Bool → Bool → Bool → Option Rule
chain stranger lost generation stale dead foreign barred ungranted =
    first_of
    ((stranger, rule.Stranger)
    ∷ (lost, rule.Stale 0)
    ∷ (stale, rule.Stale generation)
    ∷ (dead, rule.AlreadyFreed)
    ∷ (foreign, rule.ForeignArena)
    ∷ (barred, rule.Forbidden)
    ∷ (ungranted, rule.NotGranted)
    ∷ [])

barred_chain :
    (a b : Bool) (g : ℕ) (c d e f : Bool)
    → chain a b g c d e true f ≡ forbidden_else (chain a b g c d e false f)
barred_chain true b g c d e f = refl
barred_chain false true g c d e f = refl
barred_chain false false g true d e f = refl
barred_chain false false g false true e f = refl
barred_chain false false g false false true f = refl
barred_chain false false g false false false true = refl
barred_chain false false g false false false false = refl

-- the verdict, by whether the right is forbidden
abbrev judged : Policy → ℕ → Right → ℕ → ℕ → Slot → Bool → Option Rule
judged p actor right segment expected slot barred =
    chain (not (is_tenant p actor)) (not (is_some (arena_of p segment))) slot.generation
    (not (slot.generation == expected)) (not slot.live)
    (not (is_admitted p (arena_of p segment) actor)) barred (not (grants p slot.owner actor right))

pub unforbidden_is_granted : UnforbiddenIsGranted
unforbidden_is_granted p actor right segment expected slot free =
    ap (judged p actor right segment expected slot) free

pub nothing_forbidden : NothingForbidden
nothing_forbidden p actor right segment expected slot none =
    unforbidden_is_granted p actor right segment expected slot (none slot.owner actor right)

pub forbidden_is_told : ForbiddenIsTold
forbidden_is_told p actor right segment expected slot barred =
    ap (judged p actor right segment expected slot) barred
    ∙ barred_chain (not (is_tenant p actor)) (not (is_some (arena_of p segment))) slot.generation
    (not (slot.generation == expected)) (not slot.live)
    (not (is_admitted p (arena_of p segment) actor)) (not (grants p slot.owner actor right))

forbidden_is_some : (o : Option Rule) → is_none (forbidden_else o) ≡ false
forbidden_is_some None = refl
forbidden_is_some (Some rule.Stranger) = refl
forbidden_is_some (Some (rule.Stale g)) = refl
forbidden_is_some (Some rule.AlreadyFreed) = refl
forbidden_is_some (Some rule.ForeignArena) = refl
forbidden_is_some (Some rule.Forbidden) = refl
forbidden_is_some (Some rule.NotGranted) = refl
forbidden_is_some (Some rule.OverLimit) = refl

pub forbidding_only_takes : ForbiddingOnlyTakes
forbidding_only_takes p actor right segment expected slot =
    let by_grants = denial_by_grants p actor right segment expected slot in
    elim (cases_Bool (forbids p slot.owner actor right)) [
      | inl barred ↦
          ap is_none (forbidden_is_told p actor right segment expected slot barred)
          ∙ forbidden_is_some by_grants ∙ sym (ap (λ b. not b && is_none by_grants) barred)
      | inr free ↦
          ap is_none (unforbidden_is_granted p actor right segment expected slot free)
          ∙ sym (ap (λ b. not b && is_none by_grants) free)
    ]

is_some_rule : (o : Option Rule) → is_none o ≡ false → o ≢ None
is_some_rule None e = absurd (cc)
is_some_rule (Some r) e = λ none. cc

pub forbidden_is_denied : ForbiddenIsDenied
forbidden_is_denied s actor right place expected barred =
    let slot = slot_at s (number_of place) in
    is_some_rule _
    (ap is_none (forbidden_is_told s.policy actor right place.segment expected slot barred)
    ∙ forbidden_is_some (denial_by_grants s.policy actor right place.segment expected slot))

pub own_is_unforbidden : OwnIsUnforbidden
own_is_unforbidden p actor right segment expected slot sound own =
    unforbidden_is_granted p actor right segment expected slot
    (ap (λ owner. forbids p owner actor right) own ∙ sound.own_unforbidden actor right)
