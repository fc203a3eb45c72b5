use Rattle.std.proofs.Common.{◌≡◌, ℕ, Option, refl, ap, sym, subst, ◌∙◌, arith}
use Rattle.std.specs.Prelude.{unwrap_or}
use Rattle.hg_machine.specs.Request.{words_for, size_of}
use Rattle.hg_machine.specs.declared.AllocVerdict.TheVariants as verdict
use Rattle.hg_heap.specs.Allowed.{MayOpen}
use Rattle.hg_heap.specs.Charges.{charge_in}
use Rattle.hg_heap.specs.Right.{IsRight}
use Rattle.hg_heap.proofs.AllocCall.{Fits, given_ties, fits_is, no_room_ends, refusal_ends}
use Rattle.hg_heap.proofs.heap.Heap.alloc.Goals as goal
use Rattle.hg_heap.proofs.heap.Heap.alloc.Goals.{After-class_for, In-Ok}
use Rattle.hg_heap.proofs.heap.Heap.alloc.Given.{Over}

-- the heap is right, as it is seen
right : (g : Over) (c : After-class_for g) → IsRight g.S.SlotWords.number g.S.SlotWords.records
    c.self.inside.table.value c.self.inside.charges c.self.inside.segments.cap c.args.self.now
right g c = subst (IsRight g.S.SlotWords.number g.S.SlotWords.records c.self.inside.table.value
    c.self.inside.charges c.self.inside.segments.cap) c.self.view_is c.self.invariant

-- a request that fits
fits : (g : Over) (c : In-Ok g) → Fits c.args.policy.now c.args.actor.0 c.args.arena
    (words_for c.args.bytes) (charge_in g.S.SlotWords.records c.args.self.now.segments c.args.actor.0)
    c.in-Ok.class
fits g c = fits_is c.args.policy.now c.args.actor.0 c.args.arena (words_for c.args.bytes) _
    c.in-Ok.ensures.fits

size_is : (g : Over) (c : In-Ok g) → c.in-Ok.class ≡ size_of c.args.bytes
size_is g c = sym (ap (λ (o : Option ℕ). unwrap_or o 0) (fits g c).size_is)

pub returns-in-Err-clause-refused : goal.returns-in-Err-clause-refused
returns-in-Err-clause-refused g c =
    let w = g.S.SlotWords in
    let m = g.met.S.SlotWords in
    let at = (goal.at.returns-in-Err-clause-refused g c).After-class_for in (
      refl,
      refusal_ends w.number w.records m.sized m.numbered (right g at) c.requires.policy c.args.actor
          c.args.arena c.args.bytes c.workers-workers.ensures.sound.few_tenants _ c.in-Err.refused refl
          c.in-Err.ensures.refused,
    )

pub allot-requires-clause-arena : goal.allot-requires-clause-arena
allot-requires-clause-arena g c =
    let f = fits g (goal.at.allot-requires-clause-arena g c).In-Ok in
    let s = c.workers-workers.ensures.sound in
    omega (arith, s.few_arenas, (s.admitted c.args.arena c.args.actor.0 f.admitted).0)

pub allot-requires-clause-owner : goal.allot-requires-clause-owner
allot-requires-clause-owner g c =
    let f = fits g (goal.at.allot-requires-clause-owner g c).In-Ok in
    let s = c.workers-workers.ensures.sound in
    omega (arith, s.few_tenants, (s.admitted c.args.arena c.args.actor.0 f.admitted).1)

pub allot-requires-clause-allowed : goal.allot-requires-clause-allowed
allot-requires-clause-allowed g c =
    let w = g.S.SlotWords in
    let size = size_is g (goal.at.allot-requires-clause-allowed g c).In-Ok in
    subst (λ (n : ℕ). MayOpen w.shows w.allows w.number w.records c.args.arena n c.args.actor.0
    c.args.self.now) (sym size) (c.requires.allowed (c.in-Ok.ensures.fits ∙ ap verdict.Fits size))

pub returns-in_default-clause-refused : goal.returns-in_default-clause-refused
returns-in_default-clause-refused g c =
    let w = g.S.SlotWords in
    let m = g.met.S.SlotWords in
    let at = (goal.at.returns-in_default-clause-refused g c).After-class_for in (
      c.in_default.ensures.none.0,
      no_room_ends w.number w.records m.sized m.numbered (right g at) c.requires.policy c.args.actor
          c.args.arena c.args.bytes c.workers-workers.ensures.sound.few_tenants (λ lt. refl)
          c.in-Ok.ensures.fits c.block_words-size.ensures.listed c.in_default.ensures.none.1
          c.in_default.ensures.none.2,
    )

pub returns-clause-given : goal.returns-clause-given
returns-clause-given g c =
    let w = g.S.SlotWords in
    let m = g.met.S.SlotWords in
    let at = goal.at.returns-clause-given g c in (
      rw (← size_is g at.In-Ok) c.in-Some.ensures.allotted,
      given_ties w.number w.records m.sized m.numbered (right g at.After-class_for) c.requires.policy
          c.args.actor c.args.arena c.args.bytes c.workers-workers.ensures.sound.few_tenants
          (λ lt. refl) c.in-Ok.ensures.fits c.block_words-size.ensures.listed c.in-Some.ensures.allotted
          c.in-Some.ensures.chosen,
    )

pub returns-clause-chosen : goal.returns-clause-chosen
returns-clause-chosen g c =
    rw (← size_is g (goal.at.returns-clause-chosen g c).In-Ok) c.in-Some.ensures.chosen

pub returns-clause-lists : goal.returns-clause-lists
returns-clause-lists g c =
    rw (← size_is g (goal.at.returns-clause-lists g c).In-Ok) c.in-Some.ensures.lists

pub returns-clause-queues : goal.returns-clause-queues
returns-clause-queues g c =
    rw (← size_is g (goal.at.returns-clause-queues g c).In-Ok) c.in-Some.ensures.queues
