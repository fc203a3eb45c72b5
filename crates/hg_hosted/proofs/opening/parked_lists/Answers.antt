use Rattle.std.proofs.Common.{◌∙◌, ap, sym, subst, arith, length, length-append}
use Rattle.crossbeam_queue.specs.Passes.{view}
use Rattle.hg_service.proofs.Opened.{each_more}
use Rattle.hg_hosted.specs.Parking.{IsHome}
use Rattle.hg_hosted.specs.Shared.{AreListsHome}
use Rattle.hg_hosted.proofs.opening.parked_lists.Goals as goal

pub loop-kept-preserved : goal.loop-kept-preserved
loop-kept-preserved g c =
    let before = c.loop-kept.invariant in
    let steps = c.in-Some.ensures.steps in
    let pushed = c.in_ok-push.ensures.items in
    let more = ap length pushed ∙ length-append c.loop-kept.parked.items _ in (
      omega (arith, before.0, steps.1, more),
      subst AreListsHome (sym pushed)
          (each_more (λ k list. IsHome (view list.pass) list.kept) c.loop-kept.parked.items
          c.in_ok-parked_list.field-0 before.1 c.in_ok-parked_list.ensures),
    )
