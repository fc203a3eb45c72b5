-- A step of a bank by cases, and what it leaves of the cores.
use Rattle.std.proofs.Common.{◌≡◌, ◌≢◌, ◌⊎◌, inl, inr, ℕ, ◌+◌, ◌<◌, List, length, set}
use Rattle.std.proofs.Common.{Option, Some, None, MatchOption, refl, sym, ap, subst, ◌∙◌, arith}
use Rattle.std.proofs.Common.{All}
use Rattle.std.specs.Prelude.{slice_get}
use Rattle.std.proofs.lemmas.Bool.{cases_lt}
use Rattle.std.proofs.lemmas.List.{length-set, get_or-set_other}
use Rattle.std.proofs.lemmas.List.Sums.{sum_by-set}
use Rattle.std.proofs.lemmas.Option.{slice_get-get_or, slice_get_past, slice_get_within}
use Rattle.std.proofs.lemmas.Option.{get_or_from_slice_get}
use Rattle.hg_machine.specs.declared.Answer.{Answer}
use Rattle.hg_machine.specs.Charge.{charge}
use Rattle.hg_machine.specs.Lists.{Kept}
use Rattle.hg_bank.specs.Requests.{Request, alloc, refill, named, server, unserved}
use Rattle.hg_bank.specs.State.{BankState, charge_over, with_core}
use Rattle.hg_bank.specs.Steps.{IsServedBy, BankStep, moved}

cases_of : (o : Option ℕ) (P : Type 0) (Q : ℕ → Type 0) → MatchOption o P Q
    → ((o ≡ None) × P) ⊎ ((core : ℕ) × (o ≡ Some core) × Q core)
cases_of None P Q h = inl (refl, h)
cases_of (Some core) P Q h = inr (core, refl, h)

-- a core serves, or none does
pub step_cases : (old : BankState) (worker : ℕ) (request : Request) (answer : Answer)
    (new : BankState) → BankStep old worker request answer new
    → ((server old worker request ≡ None) × ((answer ≡ unserved old worker request) × (new ≡ old)))
    ⊎ ((core : ℕ) × (server old worker request ≡ Some core)
    × IsServedBy old worker request answer new core)
step_cases old worker request answer new h =
    cases_of (server old worker request) _ (IsServedBy old worker request answer new) h

moved_cores : (request : Request) (worker core : ℕ) (b : BankState)
    → (moved request worker core b).cores ≡ b.cores
moved_cores (alloc actor arena bytes) worker core b = refl
moved_cores (refill arena) worker core b = refl
moved_cores (named other event) worker core b = refl

pub cores_after : (old : BankState) (worker : ℕ) (request : Request) (answer : Answer)
    (new : BankState) (core : ℕ) (is : IsServedBy old worker request answer new core)
    → new.cores ≡ set old.cores core is.next
cores_after old worker request answer new core is =
    ap (λ b. b.cores) is.after ∙ moved_cores request worker core (with_core old core is.next)

pub get_other : (xs : List Kept) (i j : ℕ) (y : Kept) → j ≢ i
    → slice_get (set xs i y) j ≡ slice_get xs j
get_other xs i j y ne =
    let long = length-set xs i y in
    elim (cases_lt j (length xs)) as (λ _. slice_get (set xs i y) j ≡ slice_get xs j) [
      | inl less ↦
          slice_get-get_or (set xs i y) j y (omega arith)
          ∙ ap Some (get_or-set_other xs i j y y ne)
          ∙ sym (slice_get-get_or xs j y less)
      | inr past ↦
          slice_get_past (set xs i y) j (omega arith) ∙ sym (slice_get_past xs j past)
    ]

pub moved_policy : (request : Request) (worker core : ℕ) (b : BankState)
    → (moved request worker core b).policy ≡ b.policy
moved_policy (alloc actor arena bytes) worker core b = refl
moved_policy (refill arena) worker core b = refl
moved_policy (named other event) worker core b = refl

-- what holds of each holds of the one at a number
pub at_number : (P : Kept → Type 0) (cores : List Kept) (core : ℕ) (k : Kept) → All P cores
    → slice_get cores core ≡ Some k → P k
at_number P cores core k all there =
    subst P (get_or_from_slice_get cores core k k there)
    (all core k (slice_get_within cores core k there))

module _ {old new : BankState} {worker : ℕ} {request : Request} {answer : Answer} {core : ℕ}
    (is : IsServedBy old worker request answer new core) where
  pub core_below : core < length old.cores
  core_below = slice_get_within old.cores core is.was is.there

  pub policy_after : new.policy ≡ old.policy
  policy_after =
      ap (λ b. b.policy) is.after ∙ moved_policy request worker core (with_core old core is.next)

  -- what counts over all cores changes as what counts in this one
  pub sum_after : (w tenant : ℕ)
      → charge_over new.cores w tenant + charge is.was.state w tenant
      ≡ charge_over old.cores w tenant + charge is.next.state w tenant
  sum_after w tenant =
      let moves = sum_by-set (λ k. charge k.state w tenant) old.cores core is.next is.was
      core_below in
      let same = ap (λ k. charge k.state w tenant)
      (get_or_from_slice_get old.cores core is.was is.was is.there) in
      let after = ap (λ xs. charge_over xs w tenant)
      (cores_after old worker request answer new core is) in
      omega arith
