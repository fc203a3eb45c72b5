-- What is taken from its place in a list.
use Rattle.std.proofs.Common.{◌≡◌, ◌≢◌, ℕ, List, Option, None, Some, MatchOption, slice_get, slice_set, sym, subst, ap, ◌∙◌}
use Rattle.std.proofs.lemmas.List.{set-get_or}
use Rattle.std.proofs.lemmas.Option.{get_or_from_slice_get, same_Some}
use Rattle.hg_hosted.specs.declared.leaving.Departed.{Departed}
use Rattle.hg_hosted.specs.declared.worker.HostedWorker.{HostedWorker}
use Rattle.hg_service_replies.specs.Opening.{ready}
use Rattle.hg_service_replies.specs.Taking.{IsNone, IsTaken, Takes}
use Rattle.hg_service_replies.specs.declared.part.Ungiven.{Ungiven}
use Rattle.hg_service_replies.specs.declared.part.Ungiven.TheVariants as ungiven

pub same_set : {X : Type 0} (xs : List X) (i : ℕ) (x : X) → slice_get xs i ≡ Some x → slice_set xs i x ≡ xs
same_set xs i x at = subst (λ y. slice_set xs i y ≡ xs) (get_or_from_slice_get xs i x x at) (set-get_or xs i x)

pub taken_or_not : (xs : List (Option Ungiven)) (i : ℕ) (held left : Option Ungiven) → slice_get xs i ≡ Some held
    → (result : Option HostedWorker) → Takes held result left
    → MatchOption result (IsNone xs i (slice_set xs i left)) (λ worker. IsTaken xs i worker (slice_set xs i left))
taken_or_not xs i held left at None takes = record {
  out = λ worker there. takes.0 worker (same_Some held (ready worker) (sym at ∙ there));
  same = ap (slice_set xs i) takes.1 ∙ same_set xs i held at;
}
taken_or_not xs i held left at (Some worker) takes = record {
  there = at ∙ ap Some takes.0;
  others = ap (slice_set xs i) takes.1;
}

abbrev stands : Option Ungiven → Type 0
stands None = ⊥
stands (Some (ungiven.Ready worker)) = Unit {0}
stands (Some (ungiven.Gone gone)) = ⊥

-- one that has left isn't ready
pub gone_not : (gone : Departed) (worker : HostedWorker) → Some (ungiven.Gone gone) ≢ ready worker
gone_not gone worker is = subst stands (sym is) tt
