use Rattle.std.proofs.Common.{◌≡◌, suc, subst, sym, ap, ◌∙◌, arith, length, length-append}
use Rattle.std.proofs.Common.{slice_get, true}
use Rattle.hg_service.specs.New.{IsNew}
use Rattle.hg_service.specs.Ready.{AreReady, is_ready}
use Rattle.hg_service.proofs.Places.{more_ready, more_there}
use Rattle.hg_service.proofs.service.all_ready.Goals as goal

pub loop-own-preserved : goal.loop-own-preserved
loop-own-preserved g c =
    let before = c.loop-own.invariant in
    let steps = c.in-Some.ensures.steps in
    let pushed = c.in_ok-push.ensures.items in
    let more = ap length pushed ∙ length-append c.loop-own.ready.items _ in
    let new = subst (λ n. IsNew n c.in-Some.own) (omega arith)
    (before.left 0 c.in-Some.own (ap (λ xs. slice_get xs 0) steps.0)) in
    record {
      count = omega (arith, before.count, steps.1, more);
      left = λ k own at. subst (λ n. IsNew n own) (omega (arith, more))
          (before.left (suc k) own (ap (λ xs. slice_get xs (suc k)) steps.0 ∙ at));
      there = λ k low. subst (λ xs. is_ready xs k ≡ true) (sym pushed)
          (more_there c.loop-own.ready.items _ before.there k (omega (arith, low, more)));
      ready = subst AreReady (sym pushed) (more_ready c.loop-own.ready.items _ before.ready new);
    }
