-- The seat of a segment, to which a worker's is lent.
use mathlib.Core.Option.{some-injective}
use Rattle.hg_machine.specs.declared.Event.{Event}
use Rattle.hg_agreement.specs.Views.{View}
use Rattle.hg_history.specs.Service.{IsIn}
use Rattle.hg_history.proofs.Views.{at_append}
use Rattle.hg_roles.specs.Deciding.{IsSeatOf}
use Rattle.hg_roles.specs.Roles.{Call, Role, of_worker, of_segment}
use Rattle.hg_run_table.specs.declared.part.Part.{Part}
use Rattle.hg_run_table.specs.declared.part.PartName.{PartName}
use Rattle.hg_run_table.specs.AnswerLaws.{AsksOne}
use Rattle.hg_run_table.specs.Asked.{IsWorkerAsked, HasLeft, HasLeftIf, is_asked, is_asking, is_worker}
use Rattle.hg_run_table.specs.Seated.{HaveRoles, name_in}
use Rattle.hg_run_table.proofs.RolesOfViews.{joined_have, role_at}
use Rattle.std.proofs.lemmas.Bool.{true≢false}
use Rattle.std.proofs.lemmas.List.{length-map}
use Rattle.std.proofs.Common.{◌≡◌, ◌⊎◌, ◌||◌, Bool, true, false, ⊎_elim, ℕ, zero, suc, inl, inr, sym}
use Rattle.std.proofs.Common.{List, [], ◌∷◌, ◌++◌, length, refl, ap, subst, ◌∙◌, ◌+◌, arith}

-- the seat of a segment, to which a worker's is lent
behind_segment : (view : View) (log : List Call) (segment : ℕ)
    → IsSeatOf view log (of_segment segment ∷ of_worker view log ∷ [])
behind_segment view log segment = record { place = 1; there = refl; others = others }
  where
    others : (j : ℕ) (part : Role) → IsIn (of_segment segment ∷ of_worker view log ∷ []) j part
        → (part ≡ of_worker view log) ⊎ ((number : ℕ) × (part ≡ of_segment number))
    others zero part here =
        inr (segment, sym (some-injective (of_segment segment) part here))
    others (suc zero) part here = inl (sym (some-injective (of_worker view log) part here))
    others (suc (suc j)) part here = absurd (cc)

-- of a segment's part nothing is asked
pub quiet_segment : (run : List Part) (segment : ℕ) → HaveRoles run (of_segment segment ∷ [])
    → is_asked run ≡ false
quiet_segment [] segment has = absurd (omega (arith, has.count))
quiet_segment (part ∷ []) segment has =
    let h = has.each 0 part (of_segment segment) refl refl in
    subst (λ (name : PartName). (is_asking name part.asked || false) ≡ false) h.named refl
quiet_segment (part ∷ other ∷ more) segment has = absurd (omega (arith, has.count))

-- where none is asked a step leaves all parts
pub still : (place word left : ℕ) (old new : List Part) → is_asked old ≡ false
    → HasLeft place word left old new → new ≡ old
still place word left old new quiet =
    subst (λ (b : Bool). HasLeftIf b place word left old new → new ≡ old) (sym quiet) (λ same. same)

-- and it leaves as many as there were
pub as_many : (place word left : ℕ) (old new : List Part) → HasLeft place word left old new
    → length new ≡ length old
as_many place word left old new = go (is_asked old)
  where
    go : (b : Bool) → HasLeftIf b place word left old new → length new ≡ length old
    go true left = ap length left.now ∙ length-map old _
    go false left = ap length left

-- the seat of a segment and a worker, which is asked one event
pub asks_behind : (run more : List Part) (segment : ℕ) (view : View) (log : List Call) (e : Event)
    → HaveRoles run (of_segment segment ∷ []) → HaveRoles more (of_worker view log ∷ [])
    → IsWorkerAsked view.worker ((e ∷ []) ∷ []) more
    → AsksOne (run ++ more) (of_segment segment ∷ of_worker view log ∷ []) view log e []
asks_behind run more segment view log e has have asks = record {
  has = joined_have run (of_segment segment ∷ []) has more (of_worker view log ∷ []) have;
  seat = behind_segment view log segment;
  asked = λ j part here its. ⊎_elim
      (λ (p : IsIn run j part).
      let r = role_at run (of_segment segment ∷ []) has j part p in
      absurd (none r.0 j r.1 part (sym r.2.named) its))
      (λ (p : (k : ℕ) × (j ≡ length run + k) × IsIn more k part). asks p.0 part p.2 its)
      (at_append run more j part here);
}
  where
    none : (role : Role) (j : ℕ) → IsIn (of_segment segment ∷ []) j role → (part : Part)
        → part.name ≡ name_in role → is_worker view.worker part.name ≡ true → ⊥
    none role zero there part named its =
        true≢false
        (sym its ∙ ap (is_worker view.worker) named
        ∙ ap (λ r. is_worker view.worker (name_in r)) (sym (some-injective (of_segment segment) role there)))
    none role (suc j) there part named its = absurd (cc)
