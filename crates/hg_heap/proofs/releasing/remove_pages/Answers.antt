use Rattle.std.proofs.Common.{◌≡◌, ◌+◌, ◌*◌, ℕ, map, ap, ◌∙◌, arith}
use Rattle.hg_lists.specs.Lists.{without}
use Rattle.hg_heap.proofs.PagesRemoved.{none_removed, one_removed, all_removed}
use Rattle.hg_heap.proofs.releasing.remove_pages.Goals as goal

pub loop-page-init : goal.loop-page-init
loop-page-init c =
    let first : c.from.result * 16 ≡ c.args.segment * 16 = omega (arith, c.from.ensures) in
    (none_removed (c.args.segment * 16) c.args.queues.now c.requires.queues, first)

pub loop-page-preserved : goal.loop-page-preserved
loop-page-preserved c =
    let first = c.loop-page.invariant.1 in (
      one_removed (c.args.segment * 16) c.loop-page.page c.args.queues.now c.loop-page.queues
          c.remove.new.self c.loop-page.invariant.0 c.remove.ensures.queues
          (c.remove.ensures.removed
          ∙ ap (λ (m : ℕ). map (without (m + c.loop-page.page)) c.loop-page.queues) first),
      first,
    )

pub returns-clause-removed : goal.returns-clause-removed
returns-clause-removed c =
    all_removed c.args.segment (c.args.segment * 16) c.loop-page.page c.args.queues.now
    c.loop-page.queues c.loop-page.invariant.0 (omega arith)
    (omega (arith, c.loop-page-test.false, c.loop-page.auto.page-end))
