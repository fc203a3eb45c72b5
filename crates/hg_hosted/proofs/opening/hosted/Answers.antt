use Rattle.std.proofs.Common.{◌≡◌, ℕ, suc, Some, subst, sym, ap, ◌∙◌, arith, length, length-append, slice_get}
use Rattle.std.proofs.lemmas.Option.{same_Some}
use Rattle.hg_service.specs.New.{IsNew}
use Rattle.hg_service.proofs.Opened.{each_more}
use Rattle.hg_worker.specs.States.{IsNamed}
use Rattle.hg_hosted.specs.Places.{HaveSamePlaces}
use Rattle.hg_hosted.proofs.Reaching.{places_then}
use Rattle.hg_hosted.specs.New.{IsNewHosted, IsNewState, IsWorkerOf}
use Rattle.hg_hosted.proofs.opening.hosted.Goals as goal

pub loop-worker-preserved : goal.loop-worker-preserved
loop-worker-preserved g c =
    let before = c.loop-worker.invariant in
    let steps = c.in-Some.ensures.steps in
    let made = c.in_ok-hosted_one.field-0 in
    let pushed = c.in_ok-push.ensures.items in
    let more = ap length pushed ∙ length-append c.loop-worker.hosted.items _ in
    let new : IsNew (length c.loop-worker.hosted.items) c.in-Some.worker =
    subst (λ n. IsNew n c.in-Some.worker) (omega arith)
    (before.left 0 c.in-Some.worker (ap (λ xs. slice_get xs 0) steps.0)) in
    record {
      of = c.hosted_one.ensures.of;
      home = c.hosted_one.ensures.home;
      taken = c.hosted_one.ensures.taken ∙ before.taken;
      own_places = places_then before.own_places c.hosted_one.ensures.own_places;
      places = subst
          (λ xs. (k : ℕ) (one : _) → slice_get xs k ≡ Some one → HaveSamePlaces c.args.shared.now one.shared)
          (sym pushed)
          (each_more (λ k one. HaveSamePlaces c.args.shared.now one.shared) c.loop-worker.hosted.items made
          before.places (places_then before.own_places c.in_ok-hosted_one.ensures.places));
      count = omega (arith, before.count, steps.1, more);
      left = λ k own at. subst (λ n. IsNew n own) (omega (arith, more))
          (before.left (suc k) own (ap (λ xs. slice_get xs (suc k)) steps.0 ∙ at));
      new = subst
          (λ xs. (k : ℕ) (one : _) → slice_get xs k ≡ Some one → IsNewHosted k one) (sym pushed)
          (each_more IsNewHosted c.loop-worker.hosted.items made before.new
          (λ own is. subst (λ o. IsNewState (length c.loop-worker.hosted.items) o.value)
          (same_Some c.in-Some.worker.inner own (sym c.in_ok-hosted_one.ensures.own ∙ is))
          record {
            number_is = new.number_is;
            held = new.held;
            hand = new.hand;
            seat = new.seat;
          }));
      named = subst
          (λ xs. (k : ℕ) (one : _) → slice_get xs k ≡ Some one
          → IsWorkerOf g.N.ServiceName.policy g.N.TableName.table one) (sym pushed)
          (each_more (λ k one. IsWorkerOf g.N.ServiceName.policy g.N.TableName.table one)
          c.loop-worker.hosted.items made before.named
          (λ own is. subst (λ o. IsNamed g.N.ServiceName.policy g.N.TableName.table o.value)
          (same_Some c.in-Some.worker.inner own (sym c.in_ok-hosted_one.ensures.own ∙ is))
          c.in-Some.worker.named));
    }
