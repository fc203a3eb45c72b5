use Rattle.std.proofs.Common.{◌≡◌, ◌*◌, ◌+◌, ℕ, Some, ap, sym, subst, ◌∙◌}
use Rattle.hg_size.specs.Sizes.{number_of_size}
use Rattle.hg_size.specs.SizeLaws.{key_of}
use Rattle.hg_heap.specs.Held.{has_place, lists_on}
use Rattle.hg_heap.specs.Lists.{GivenOut}
use Rattle.hg_heap.specs.Requeued.{requeued}
use Rattle.hg_heap.specs.Right.{IsRight}
use Rattle.hg_heap.proofs.Allotting.{allotted_ready, chosen_ready, chosen_popped, given_ready}
use Rattle.hg_heap.proofs.Allotting.{queues_ready}
use Rattle.hg_heap.proofs.Letting.{may_give}
use Rattle.hg_heap.proofs.heap.Heap.allot.Goals as goal

pub give_out-requires-clause-allowed : goal.give_out-requires-clause-allowed
give_out-requires-clause-allowed g c =
    let w = g.S.SlotWords in
    let r = subst (IsRight w.number w.records c.self.inside.table.value c.self.inside.charges
    c.self.inside.segments.cap) c.self.view_is c.self.invariant in
    may_give w.number w.shows w.allows w.records c.args.self.now c.page_for.new.self c.args.arena
    c.args.class c.args.owner c.in-Some.page r.queued r.tabled.once c.in-Some.ensures.queued
    c.in-Some.ensures.ready c.requires.allowed

pub returns-clause-allotted : goal.returns-clause-allotted
returns-clause-allotted g c =
    let w = g.S.SlotWords in
    let r = subst (IsRight w.number w.records c.self.inside.table.value c.self.inside.charges
    c.self.inside.segments.cap) c.self.view_is c.self.invariant in
    allotted_ready w.number w.records w.shows w.steps g.met.S.SlotWords.sized c.args.self.now
    c.page_for.new.self c.give_out.new.self.segments c.args.arena c.args.class c.args.owner
    c.in-Some.page c.give_out.result
    r.tabled.once r.settled c.in-Some.ensures.ready c.give_out.ensures.opened

pub returns-clause-chosen : goal.returns-clause-chosen
returns-clause-chosen g c =
    let w = g.S.SlotWords in
    let given = given_ready w.number w.records c.args.self.now c.page_for.new.self
    c.give_out.new.self.segments c.args.arena c.args.class c.in-Some.page
    c.give_out.result.place.index c.in-Some.ensures.ready c.give_out.ensures.lists in
    chosen_popped w.number w.records c.args.self.now c.args.arena c.args.class c.in-Some.page
    c.give_out.result.place.index
    (lists_on w.number c.give_out.new.self.segments c.in-Some.page)
    (chosen_ready w.number w.records c.args.self.now c.page_for.new.self c.args.arena c.args.class
    c.in-Some.page c.in-Some.ensures.ready) given.popped
    ∙ ap (λ (n : ℕ). Some (n * 512 + c.give_out.result.place.index))
    (sym c.give_out.ensures.opened.on)

pub returns-clause-lists : goal.returns-clause-lists
returns-clause-lists g c =
    let w = g.S.SlotWords in
    subst (λ (n : ℕ). GivenOut w.number w.records c.args.arena c.args.class n
    c.give_out.result.place.index c.args.self.now.segments c.give_out.new.self.segments)
    (sym c.give_out.ensures.opened.on)
    (given_ready w.number w.records c.args.self.now c.page_for.new.self c.give_out.new.self.segments
    c.args.arena c.args.class c.in-Some.page c.give_out.result.place.index c.in-Some.ensures.ready
    c.give_out.ensures.lists)

pub returns-clause-queues : goal.returns-clause-queues
returns-clause-queues g c =
    let w = g.S.SlotWords in
    let r = subst (IsRight w.number w.records c.self.inside.table.value c.self.inside.charges
    c.self.inside.segments.cap) c.self.view_is c.self.invariant in
    subst (λ (n : ℕ). c.give_out.new.self.queues ≡ requeued
    (key_of c.args.arena (number_of_size c.args.class)) n
    (has_place (lists_on w.number c.give_out.new.self.segments n)) c.args.self.now.queues)
    (sym c.give_out.ensures.opened.on)
    (queues_ready w.number w.records c.args.self.now c.page_for.new.self c.args.arena c.args.class
    c.in-Some.page (has_place (lists_on w.number c.give_out.new.self.segments c.in-Some.page))
    c.give_out.new.self.queues
    r.queued c.requires.arena c.block_words-size.ensures.listed c.in-Some.ensures.ready
    c.give_out.ensures.queues)
