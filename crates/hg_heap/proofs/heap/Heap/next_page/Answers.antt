use Rattle.std.proofs.Common.{◌≡◌, ℕ, Option, Some, None, IfSome, sym, ap, subst, ◌∙◌, slice_get, true}
use Rattle.hg_size.specs.Sizes.{number_of_size}
use Rattle.hg_size.specs.SizeLaws.{key_of}
use Rattle.hg_queue.specs.Queues.{queue_of}
use Rattle.hg_heap.specs.Choice.{blank_on, blank_page, front_page}
use Rattle.hg_heap.specs.Held.{is_some_place}
use Rattle.hg_heap.specs.Next.{IsNext}
use Rattle.hg_heap.specs.Right.{IsRight}
use Rattle.hg_heap.proofs.NextSegment.{next_blank, next_front}
use Rattle.hg_heap.proofs.heap.Heap.next_page.Goals as goal
use Rattle.hg_heap.proofs.heap.Heap.next_page.Goals.{After-front}
use Rattle.hg_heap.proofs.heap.Heap.next_page.Given.{Over}

-- the heap is right, as it is seen
right : (g : Over) (c : After-front g)
    → IsRight g.S.SlotWords.number g.S.SlotWords.records c.self.inside.table.value
    c.self.inside.charges c.self.inside.segments.cap c.args.self.now
right g c = subst (IsRight g.S.SlotWords.number g.S.SlotWords.records c.self.inside.table.value
    c.self.inside.charges c.self.inside.segments.cap) c.self.view_is c.self.invariant

-- what stands in front
front_is : (g : Over) (c : After-front g)
    → front_page g.S.SlotWords.number g.S.SlotWords.records c.args.self.now c.args.arena c.args.class
    ≡ c.front.result
front_is g c =
    sym (ap (λ h. slice_get (queue_of h.queues (key_of c.args.arena (number_of_size c.args.class))) 0)
    c.self.view_is)
    ∙ sym c.front.ensures.first

pub returns-in-Some-clause-next : goal.returns-in-Some-clause-next
returns-in-Some-clause-next g c =
    let at = (goal.at.returns-in-Some-clause-next g c).After-front in
    let r = right g at in
    next_front g.S.SlotWords.number g.S.SlotWords.records c.args.self.now c.args.arena c.args.class
    r.queued r.settled c.in-Some.page c.block_words-size.ensures.listed (front_is g at ∙ c.in-Some.is)

pub returns-in-None-clause-next : goal.returns-in-None-clause-next
returns-in-None-clause-next g c =
    go c.blank_page.result c.blank_page.ensures.first c.blank_page.ensures.blank
  where
    go : (o : Option ℕ)
        → o ≡ blank_page g.S.SlotWords.number g.S.SlotWords.records c.args.self.now c.args.arena c.args.class
        → IfSome o
        (λ page.
        is_some_place
        (blank_on g.S.SlotWords.number g.S.SlotWords.records c.args.self.now.segments c.args.arena c.args.class
        page)
        ≡ true)
        → IfSome o
        (IsNext g.S.SlotWords.number g.S.SlotWords.records c.args.self.now c.args.arena c.args.class)
    go None is blank = tt
    go (Some page) is blank =
        let at = (goal.at.returns-in-None-clause-next g c).After-front in
        let r = right g at in
        next_blank g.S.SlotWords.number g.S.SlotWords.records c.args.self.now c.args.arena c.args.class
        r.queued r.settled page (front_is g at ∙ c.in-None.is) (sym is) blank
