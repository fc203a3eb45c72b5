use Rattle.std.proofs.Common.{◌≡◌, inl, inr, Some, slice_get, sym, ap, subst, ◌∙◌, arith}
use Rattle.std.proofs.lemmas.Bool.{cases_eq}
use Rattle.std.proofs.lemmas.Option.{same_Some, slice_get-get_or, slice_get_within}
use Rattle.hg_hosted.specs.Leaving.{IsIdle}
use Rattle.hg_hosted.specs.Has.{Has}
use Rattle.hg_bank_service.proofs.leaving.first_busy.Goals as goal

pub returns-then-not-is_idle-clause-some : goal.returns-then-not-is_idle-clause-some
returns-then-not-is_idle-clause-some c =
    let items = c.args.workers.now in
    let one = c.index-workers-from.result in
    record {
      worker = one;
      there = subst (λ n. slice_get items n ≡ Some one) c.from.ensures
          (slice_get-get_or items c.from.result one (omega arith)
          ∙ ap Some (sym c.index-workers-from.is));
      busy = c.is_idle.ensures.no c.if-not-is_idle.true;
      lower = c.loop-core.invariant;
    }

pub loop-core-preserved : goal.loop-core-preserved
loop-core-preserved c =
    let items = c.args.workers.now in
    let one = c.index-workers-from.result in
    let here = subst (λ n. slice_get items n ≡ Some one) c.from.ensures
    (slice_get-get_or items c.from.result one (omega arith)
    ∙ ap Some (sym c.index-workers-from.is)) in
    λ k worker less there.
    elim (cases_eq k c.loop-core.core) as (λ _. Has IsIdle worker) [
      | inl same ↦
          subst (Has IsIdle) (same_Some one worker (sym here ∙ ap (slice_get items) (sym same) ∙ there))
          (c.is_idle.ensures.yes c.if-not-is_idle.false)
      | inr apart ↦ c.loop-core.invariant k worker (omega (arith, less, apart)) there
    ]

pub returns-clause-none : goal.returns-clause-none
returns-clause-none c = λ core worker past there.
    let low = slice_get_within c.args.workers.now core worker there in
    c.loop-core.invariant core worker (omega (arith, low, c.loop-core-test.false)) there
