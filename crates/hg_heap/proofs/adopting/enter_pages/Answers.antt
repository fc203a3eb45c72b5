use Rattle.std.proofs.Common.{◌≡◌, ◌+◌, ◌*◌, ◌/◌, ◌%◌, ◌<◌, ℕ, List, not, true, false, ◌∷◌}
use Rattle.std.proofs.Common.{slice_set, Some, None, refl, reverse, ◌++◌, arith, ap, sym, subst}
use Rattle.std.proofs.Common.{◌∙◌, length}
use Rattle.hg_size.specs.Sizes.{number_of_size}
use Rattle.hg_size.specs.SizeLaws.{key_of}
use Rattle.hg_size.proofs.Table.{number_below}
use Rattle.hg_queue.specs.Queues.{IsQueued, queue_of}
use Rattle.hg_segment.specs.Kept.{class_at, lists_at}
use Rattle.hg_heap.specs.Held.{has_place}
use Rattle.hg_heap.proofs.Requeuing.{has_place_is}
use Rattle.hg_heap.proofs.Entered.{AreEntered, classless_stays, full_stays, one_enters}
use Rattle.hg_heap.proofs.Entered.{next_nowhere, pages_are}
use Rattle.hg_heap.proofs.adopting.enter_pages.Goals as goal
use Rattle.hg_heap.proofs.adopting.enter_pages.Goals.{in-Some+then-not-is_full}
use Rattle.hg_heap.proofs.adopting.enter_pages.Goals.{in-Some+else-not-is_full, in_default}

pub push_front-requires-clause-nowhere : goal.push_front-requires-clause-nowhere
push_front-requires-clause-nowhere g c =
    let k = c.args.segment.now in
    let number = g.S.SlotWords.number k.slots in
    let first = number * 16 in
    let page = c.loop-page.page in
    let even : first % 16 ≡ 0 = omega arith in
    let own : (first + page) / 16 ≡ number = omega (arith, c.loop-page-test.true) in
    let here : first + page ≡ c.from.result * 16 + c.from-then-not-is_full.result =
    omega (arith, c.loop-page.invariant.1) in
    subst (λ (m : ℕ). ¬ IsQueued c.loop-page.queues m) here
    (next_nowhere k first page c.args.queues.now c.loop-page.queues c.loop-page.invariant.0
    c.loop-page-test.true even (c.requires.nowhere (first + page) own))

pub loop-page-preserved : goal.loop-page-preserved
loop-page-preserved g c =
    let k = c.args.segment.now in
    let number = g.S.SlotWords.number k.slots in
    let first = number * 16 in
    let page = c.loop-page.page in
    let even : first % 16 ≡ 0 = omega arith in (
      elim c.match-class_of.branch as (λ _. AreEntered k first (page + 1) c.args.queues.now
          c.match-class_of.queues) [
            | in-Some+then-not-is_full w ↦ (
                let class : class_at k.classes page ≡ Some w.in-Some.class =
                sym c.class_of.ensures ∙ w.in-Some.is in
                let has : has_place (lists_at k.lists page) ≡ true =
                sym (has_place_is (lists_at k.lists page) w.is_full.result w.is_full.ensures.0
                w.is_full.ensures.1) ∙ ap not w.if-not-is_full.true in
                let below = number_below w.in-Some.class
                (c.requires.sizes page w.in-Some.class class)
                in
                let all = c.loop-page.invariant.0.queues.all in
                let arena = c.requires.arena in
                let inside : key_of k.arena (number_of_size w.in-Some.class) < length
                c.loop-page.queues
                = omega (arith, below, all, arena) in
                let here : c.from.result * 16 + w.from-then-not-is_full.result ≡ first + page =
                omega (arith, c.loop-page.invariant.1, w.from-then-not-is_full.ensures) in
                subst (AreEntered k first (page + 1) c.args.queues.now) (sym w.queues-is)
                (one_enters k first page c.args.queues.now c.loop-page.queues
                c.loop-page.invariant.0
                c.loop-page-test.true even w.in-Some.class w.push_front.new.self class has
                w.push_front.ensures.queues inside
                (w.push_front.ensures.pushed
                ∙ ap (λ (m : ℕ). slice_set c.loop-page.queues
                (key_of m (number_of_size w.in-Some.class))
                ((c.from.result * 16 + w.from-then-not-is_full.result) ∷ queue_of c.loop-page.queues
                (key_of m (number_of_size w.in-Some.class)))) w.arena.ensures
                ∙ ap (λ (m : ℕ). slice_set c.loop-page.queues
                (key_of k.arena (number_of_size w.in-Some.class))
                (m ∷ queue_of c.loop-page.queues (key_of k.arena (number_of_size w.in-Some.class))))
                here)))
            | in-Some+else-not-is_full w ↦ (
                let full : has_place (lists_at k.lists page) ≡ false =
                sym (has_place_is (lists_at k.lists page) w.is_full.result w.is_full.ensures.0
                w.is_full.ensures.1) ∙ ap not w.if-not-is_full.false in
                subst (AreEntered k first (page + 1) c.args.queues.now) (sym w.queues-is)
                (full_stays k first page c.args.queues.now c.loop-page.queues
                c.loop-page.invariant.0
                c.loop-page-test.true even full))
            | in_default w ↦ (
                let none : class_at k.classes page ≡ None =
                sym c.class_of.ensures ∙ w.in_default.is in
                subst (AreEntered k first (page + 1) c.args.queues.now) (sym w.queues-is)
                (classless_stays k first page c.args.queues.now c.loop-page.queues
                c.loop-page.invariant.0 c.loop-page-test.true even none))
          ],
      c.loop-page.invariant.1,
    )

pub returns-clause-entered : goal.returns-clause-entered
returns-clause-entered g c =
    let k = c.args.segment.now in
    let first = g.S.SlotWords.number k.slots * 16 in
    let whole : c.loop-page.page ≡ 16 =
    omega (arith, c.loop-page-test.false, c.loop-page.auto.page-end) in
    λ key. c.loop-page.invariant.0.each key
    ∙ ap (λ (xs : List ℕ). reverse xs ++ queue_of c.args.queues.now key)
    (sym (pages_are g.S.SlotWords.number k key c.loop-page.page first whole refl))
