-- What is taken from its place in a list.
use Rattle.std.proofs.Common.{◌≡◌, ◌≢◌, ℕ, List, Vec, Global, Option, None, Some, MatchOption, slice_get, slice_set, sym, subst, ap, ◌∙◌}
use Rattle.std.proofs.lemmas.Option.{same_Some}
use Rattle.hg_hosted.specs.declared.leaving.Departed.{Departed}
use Rattle.hg_bank_service.specs.declared.unleft.Leaving.{Leaving}
use Rattle.hg_bank_service.specs.declared.worker.BankWorker.{BankWorker}
use Rattle.hg_service_replies.proofs.Taken.{same_set}
use Rattle.hg_bank_service_replies.specs.Opening.{ready}
use Rattle.hg_bank_service_replies.specs.Taking.{IsNone, IsTaken, Takes}
use Rattle.hg_bank_service_replies.specs.declared.part.Ungiven.{Ungiven}
use Rattle.hg_bank_service_replies.specs.declared.part.Ungiven.TheVariants as ungiven

pub taken_or_not : (xs : List (Option Ungiven)) (i : ℕ) (held left : Option Ungiven) → slice_get xs i ≡ Some held
    → (result : Option BankWorker) → Takes held result left
    → MatchOption result (IsNone xs i (slice_set xs i left)) (λ worker. IsTaken xs i worker (slice_set xs i left))
taken_or_not xs i held left at None takes = record {
  out = λ worker there. takes.0 worker (same_Some held (ready worker) (sym at ∙ there));
  same = ap (slice_set xs i) takes.1 ∙ same_set xs i held at;
}
taken_or_not xs i held left at (Some worker) takes = record {
  there = at ∙ ap Some takes.0;
  others = ap (slice_set xs i) takes.1;
}

abbrev stands : Option Ungiven → Type 0
stands None = ⊥
stands (Some (ungiven.Ready worker)) = Unit {0}
stands (Some (ungiven.Leaving left)) = ⊥
stands (Some (ungiven.Gone gone)) = ⊥

-- one that is leaving isn't ready
pub leaving_not : (left : Leaving) (worker : BankWorker) → Some (ungiven.Leaving left) ≢ ready worker
leaving_not left worker is = subst stands (sym is) tt

-- nor one that has left
pub gone_not : (gone : Vec Departed Global) (worker : BankWorker) → Some (ungiven.Gone gone) ≢ ready worker
gone_not gone worker is = subst stands (sym is) tt
