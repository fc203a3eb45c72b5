-- A seat of which no worker is asked anything.
use Rattle.std.proofs.Common.{◌≡◌, ◌||◌, ℕ, suc, Bool, true, false, List, [], ◌∷◌, ◌++◌, refl, sym, ap, ◌∙◌, eq-eqb, inl, inr}
use Rattle.std.proofs.lemmas.Bool.{cases_Bool, true≢false}
use Rattle.hg_machine.specs.declared.Event.{Event}
use Rattle.hg_run_table.specs.declared.part.Part.{Part}
use Rattle.hg_run_table.specs.declared.part.PartName.{PartName}
use Rattle.hg_run_table.specs.declared.part.PartName.TheVariants.{Worker, Remote, Pool, Segment}
use Rattle.hg_run_table.specs.Asked.{IsWorkerAsked, is_asked, is_asking, is_worker}

-- a part of which, if it is a worker's, nothing is asked
unasked : (name : PartName) (asked : List (List Event))
    → ((worker : ℕ) → is_worker worker name ≡ true → asked ≡ []) → is_asking name asked ≡ false
unasked (Worker number) asked none =
    ap (is_asking (Worker number)) (none number (eq-eqb number number refl))
unasked (Remote number) asked none = refl
unasked Pool asked none = refl
unasked (Segment number) asked none = refl

pub quiet_asked : (run : List Part) → ((worker : ℕ) → IsWorkerAsked worker [] run)
    → is_asked run ≡ false
quiet_asked [] asks = refl
quiet_asked (part ∷ more) asks =
    ap (λ (b : Bool). b || is_asked more)
    (unasked part.name part.asked (λ worker is. asks worker 0 part refl is))
    ∙ quiet_asked more (λ worker j other at is. asks worker (suc j) other at is)

pub quiet_append : (run more : List Part) → is_asked run ≡ false → is_asked more ≡ false
    → is_asked (run ++ more) ≡ false
quiet_append [] more none rest = rest
quiet_append (part ∷ run) more none rest =
    elim (cases_Bool (is_asking part.name part.asked)) [
      | inl t ↦ absurd (true≢false (sym (ap (λ (b : Bool). b || is_asked run) t) ∙ none))
      | inr f ↦
          ap (λ (b : Bool). b || is_asked (run ++ more)) f
          ∙ quiet_append run more (sym (ap (λ (b : Bool). b || is_asked run) f) ∙ none) rest
    ]
