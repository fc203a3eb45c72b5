use Rattle.std.proofs.Common.{◌≡◌, ℕ, Option, Contains, refl, sym, ap, subst}
use Rattle.std.specs.Prelude.{unwrap_or}
use Rattle.hg_size.specs.Sizes.{sizes}
use Rattle.hg_machine.specs.Request.{size_of, words_for}
use Rattle.hg_heap.specs.Right.{IsRight}
use Rattle.hg_heap.proofs.AllocCall.{fits_is, no_room_ends, refusal_ends}
use Rattle.hg_heap.proofs.heap.Heap.next_segment.Goals as goal
use Rattle.hg_heap.proofs.heap.Heap.next_segment.Goals.{After-class_for, In-Ok}
use Rattle.hg_heap.proofs.heap.Heap.next_segment.Given.{Over}

-- the heap is right, as it is seen
right : (g : Over) (c : After-class_for g)
    → IsRight g.S.SlotWords.number g.S.SlotWords.records c.self.inside.table.value
    c.self.inside.charges c.self.inside.segments.cap c.args.self.now
right g c = subst (IsRight g.S.SlotWords.number g.S.SlotWords.records c.self.inside.table.value
    c.self.inside.charges c.self.inside.segments.cap) c.self.view_is c.self.invariant

size_is : (g : Over) (c : In-Ok g) → c.in-Ok.class ≡ size_of c.args.bytes
size_is g c =
    sym (ap (λ (o : Option ℕ). unwrap_or o 0)
    (fits_is c.args.policy.now c.args.actor.0 c.args.arena (words_for c.args.bytes) _
    c.in-Ok.ensures.fits).size_is)

pub returns-in-Err-clause-refused : goal.returns-in-Err-clause-refused
returns-in-Err-clause-refused g c =
    let w = g.S.SlotWords in
    let m = g.met.S.SlotWords in
    refusal_ends w.number w.records m.sized m.numbered
    (right g (goal.at.returns-in-Err-clause-refused g c).After-class_for) c.requires.policy c.args.actor
    c.args.arena c.args.bytes c.workers-workers.ensures.sound.few_tenants _ c.in-Err.refused refl
    c.in-Err.ensures.refused

pub returns-in-None-clause-refused : goal.returns-in-None-clause-refused
returns-in-None-clause-refused g c =
    let w = g.S.SlotWords in
    let m = g.met.S.SlotWords in
    no_room_ends w.number w.records m.sized m.numbered
    (right g (goal.at.returns-in-None-clause-refused g c).After-class_for) c.requires.policy
    c.args.actor c.args.arena c.args.bytes c.workers-workers.ensures.sound.few_tenants (λ lt. refl)
    c.in-Ok.ensures.fits c.block_words-size.ensures.listed c.in-None.ensures.none.0
    c.in-None.ensures.none.1

pub returns-in-Some-clause-sized : goal.returns-in-Some-clause-sized
returns-in-Some-clause-sized g c =
    subst (Contains sizes) (size_is g (goal.at.returns-in-Some-clause-sized g c).In-Ok)
    c.block_words-size.ensures.listed
