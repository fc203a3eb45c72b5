use Rattle.std.proofs.Common.{◌≡◌, ◌∙◌, ◌*◌, ◌-◌, ℕ, Bool, not, Some, None, sym, refl, ap, slice_set}
use Rattle.std.proofs.Common.{slice_index}
use Rattle.std.proofs.lemmas.Bool.{true≢false}
use Rattle.std.proofs.lemmas.List.{length-set}
use Rattle.hg_place.specs.declared.Right.TheVariants as right
use Rattle.hg_place.specs.Lives.{word_generation, word_owner}
use Rattle.hg_place.specs.Places.{page_number}
use Rattle.hg_place.specs.Standings.{slot_of}
use Rattle.hg_size.specs.Sizes.{number_of_size}
use Rattle.hg_size.specs.SizeLaws.{key_of}
use Rattle.hg_segment.specs.Kept.{class_at, lists_at}
use Rattle.hg_heap.specs.Held.{has_place}
use Rattle.hg_heap.specs.Settled.{IsSettled}
use Rattle.hg_heap.specs.Requeued.{requeued}
use Rattle.hg_heap.proofs.Founds.{Found, found_of, found_held, number_is, Contains-get}
use Rattle.hg_heap.proofs.Requeuing.{has_place_is}
use Rattle.hg_heap.proofs.PageChanged.{its_own}
use Rattle.hg_heap.proofs.ChargeChanged.{charge_covers, charge_lowered}
use Rattle.hg_heap.proofs.RightChanged.{right_changed}
use Rattle.hg_heap.proofs.Judging.{judged_as, all_kept}
use Rattle.hg_heap.proofs.Looking.{heap_lists, heap_right, stepped}
use Rattle.hg_heap.proofs.FreeCall.{Frees, denied_ends, done_ends, generation_freed, was_open}
use Rattle.hg_heap.proofs.FreeCall.{has_class, owner_below, page_change, place_change, key_was}
use Rattle.hg_heap.proofs.FreeCall.{place_now, came_home, closed_step}
use Rattle.hg_heap.proofs.FreedRecords.{freed_alone}
use Rattle.hg_heap.proofs.Letting.{lets_free}
use Rattle.hg_heap.proofs.heap.Heap.free_here.Goals as goal
use Rattle.hg_heap.proofs.heap.Heap.free_here.Goals.{After-settled, In-Ok, In-Some-class_of}
use Rattle.hg_heap.proofs.heap.Heap.free_here.Goals.{After-arena-arena, After-requeue}
use Rattle.hg_heap.proofs.heap.Heap.free_here.Given.{Over}

pub close_block-closed-requires-clause-allowed : goal.close_block-closed-requires-clause-allowed
close_block-closed-requires-clause-allowed g c =
    let w = g.S.SlotWords in
    let here = found_of w.number c.self.inside.segments.items c.args.handle.place.segment c.in-Some.found
    c.index_mut-segment.result.now (rw (← c.self.view_is) at c.in-Some.ensures.some)
    c.index_mut-segment.ensures.value in
    lets_free w.number w.shows w.allows c.args.policy.now c.args.actor.0
    c.self.inside.segments.items c.args.handle c.in-Some.found c.index_mut-segment.result.now here
    (rw (← c.self.view_is) at c.requires.allowed)

pub close_block-closed-requires-clause-segment : goal.close_block-closed-requires-clause-segment
close_block-closed-requires-clause-segment g c =
    sym (number_is g.S.SlotWords.number _ _ c.in-Some.found _
    (found_of g.S.SlotWords.number c.self.inside.segments.items c.args.handle.place.segment
    c.in-Some.found c.index_mut-segment.result.now
    (rw (← c.self.view_is) at c.in-Some.ensures.some) c.index_mut-segment.ensures.value))

-- the segment that was found
here : (g : Over) (c : After-settled g) → Found g.S.SlotWords.number c.self.inside.segments.items
    c.args.handle.place.segment c.in-Some.found c.index_mut-segment.result.now
here g c = found_of g.S.SlotWords.number c.self.inside.segments.items
    c.args.handle.place.segment c.in-Some.found c.index_mut-segment.result.now
    (rw (← c.self.view_is) at c.in-Some.ensures.some) c.index_mut-segment.ensures.value

-- which keeps what each segment does
stays : (g : Over) (c : After-settled g) → IsSettled g.S.SlotWords.records
    c.close_block-closed.new.segment
stays g c = let s = c.settled.ensures in
    record {
      lists = s.lists;
      sizes = s.sizes;
      runs = s.runs;
      bounded = s.bounded;
      opened = s.«open»;
      listed = s.listed;
      blocks = s.blocks;
      pages = s.all.0;
      classes = s.all.1;
      words = s.all.2;
    }

pub invariant_of-self : goal.invariant_of-self
invariant_of-self g c =
    let at = (goal.at.invariant_of-self g c).After-settled in
    heap_right (here g at) c.in-Err.ensures.denied.1 _ _ _ _ c.self.invariant (stays g at)

pub returns-in-Err-clause-elsewhere : goal.returns-in-Err-clause-elsewhere
returns-in-Err-clause-elsewhere g c = λ e. absurd (true≢false (sym
    (found_held g.S.SlotWords.number c.args.self.now.segments c.args.handle.place.segment
    c.in-Some.found c.in-Some.ensures.some) ∙ e))

pub returns-in-Err-clause-denied : goal.returns-in-Err-clause-denied
returns-in-Err-clause-denied g c = let w = g.S.SlotWords in let d = c.in-Err.ensures.denied in
    λ _. let e = denied_ends w.number w.records w.shows w.steps c.args.policy.now _ _
    c.args.actor c.args.handle d.0 _ _
    (here g (goal.at.returns-in-Err-clause-denied g c).After-settled) d.1
    c.in-Err.ensures.words c.in-Err.rule d.2 in
    rw (← c.self.view_is) (e.0, c.in-Err.rule, refl, e.1, e.2)

pub returns-in-Err-clause-judged : goal.returns-in-Err-clause-judged
returns-in-Err-clause-judged g c = let w = g.S.SlotWords in let d = c.in-Err.ensures.denied in
    λ _. rw (← c.self.view_is) (
      d.0,
      c.in-Err.rule,
      refl,
      stepped (here g (goal.at.returns-in-Err-clause-judged g c).After-settled) d.1,
      judged_as w.number w.records w.shows w.steps g.met.S.SlotWords.fits c.args.policy.now
          c.args.actor.0 right.Free c.args.handle d.0 c.index_mut-segment.result.now
          (Some c.in-Err.rule) d.1.shown d.2,
    )

pub returns-in-Err-clause-kept : goal.returns-in-Err-clause-kept
returns-in-Err-clause-kept g c = rw (← c.self.view_is)
    (all_kept (here g (goal.at.returns-in-Err-clause-kept g c).After-settled)
    c.in-Err.ensures.denied.1 c.in-Err.ensures.words)

pub returns-in-Err-clause-same_lists : goal.returns-in-Err-clause-same_lists
returns-in-Err-clause-same_lists g c = rw (← c.self.view_is)
    (heap_lists (here g (goal.at.returns-in-Err-clause-same_lists g c).After-settled)
    c.in-Err.ensures.denied.1)

-- the place went home
frees : (g : Over) (c : In-Ok g) → Frees g.S.SlotWords.number g.S.SlotWords.records
    g.S.SlotWords.shows g.S.SlotWords.steps c.self.inside.segments.items c.in-Some.found
    c.in-Ok.ensures.closed.0 c.args.handle.place c.index_mut-segment.result.now
    c.close_block-closed.new.segment
frees g c =
    let found = found_of g.S.SlotWords.number c.self.inside.segments.items
    c.args.handle.place.segment c.in-Some.found c.index_mut-segment.result.now
    (rw (← c.self.view_is) at c.in-Some.ensures.some) c.index_mut-segment.ensures.value in
    record {
      here = found;
      was = c.self.invariant.settled _ (Contains-get _ c.in-Some.found _ found.at);
      sized = g.met.S.SlotWords.sized c.index_mut-segment.result.now.slots;
      fits = g.met.S.SlotWords.fits;
      closed = c.in-Ok.ensures.closed.1;
    }

-- the page's class, and its arena
classed : (g : Over) (c : In-Some-class_of g)
    → class_at c.close_block-closed.new.segment.classes c.args.handle.place.page
    ≡ Some c.in-Some-class_of.class
classed g c = sym c.class_of.ensures ∙ c.in-Some-class_of.is

arena_is : (g : Over) (c : After-arena-arena g)
    → c.arena-arena.result ≡ c.index_mut-segment.result.now.arena
arena_is g c = c.arena-arena.ensures ∙ c.in-Ok.ensures.closed.1.fixed.arena

pub unreachable-requires : goal.unreachable-requires
unreachable-requires g c =
    has_class (frees g (goal.at.unreachable-requires g c).In-Ok)
    (sym c.class_of.ensures ∙ c.in_default-class_of.is)

pub lower-requires-clause-left : goal.lower-requires-clause-left
lower-requires-clause-left g c = let k = c.in-Ok.ensures.closed in
    let at = goal.at.lower-requires-clause-left g c in
    let h = frees g at.In-Ok in
    rw (c.block_bytes.ensures.value, k.3)
    (charge_covers g.S.SlotWords.records _ _ _ _ (slot_of c.args.handle.place)
    (8 * c.in-Some-class_of.class) (word_owner k.0) c.self.inside.charges
    c.self.invariant.counted (owner_below h) c.self.invariant.charged
    (word_generation k.0) (word_generation k.0)
    (place_change h (classed g at.In-Some-class_of)) (was_open h))

pub requeue-requires-clause-arena : goal.requeue-requires-clause-arena
requeue-requires-clause-arena g c =
    let at = goal.at.requeue-requires-clause-arena g c in
    rw (arena_is g at.After-arena-arena) (c.self.invariant.arenas _
    (Contains-get _ c.in-Some.found _ (frees g at.In-Ok).here.at))

pub requeue-requires-clause-its_own : goal.requeue-requires-clause-its_own
requeue-requires-clause-its_own g c key on =
    let at = goal.at.requeue-requires-clause-its_own g c in
    its_own g.S.SlotWords.number _ _ c.args.handle.place.page _ _
    (page_change (frees g at.In-Ok) (classed g at.In-Some-class_of))
    c.self.inside.queues c.self.invariant.queued key (rw c.page_of.ensures.number at on)
    ∙ ap (λ (a : ℕ). key_of a (number_of_size c.in-Some-class_of.class))
    (sym (arena_is g at.After-arena-arena))

-- the page stands where it belongs now
queued : (g : Over) (c : After-requeue g) (arena : c.arena-arena.result
    ≡ c.index_mut-segment.result.now.arena) → c.requeue.new.queues ≡ requeued
    (key_of c.index_mut-segment.result.now.arena (number_of_size c.in-Some-class_of.class))
    (page_number c.args.handle.place)
    (has_place (lists_at c.close_block-closed.new.segment.lists c.args.handle.place.page))
    c.self.inside.queues
queued g c arena =
    let key = λ (a : ℕ). key_of a (number_of_size c.in-Some-class_of.class) in
    let full = not c.is_full-is_full.result in
    c.requeue.ensures.requeued
    ∙ ap (λ (a : ℕ). requeued (key a) c.page_of.result full c.self.inside.queues) arena
    ∙ ap (λ (p : ℕ). requeued (key c.index_mut-segment.result.now.arena) p full
    c.self.inside.queues) c.page_of.ensures.number
    ∙ ap (λ (b : Bool). requeued (key c.index_mut-segment.result.now.arena)
    (page_number c.args.handle.place) b c.self.inside.queues)
    (has_place_is (lists_at c.close_block-closed.new.segment.lists c.args.handle.place.page)
    c.is_full-is_full.result c.is_full-is_full.ensures.0 c.is_full-is_full.ensures.1)

pub invariant_of-self-2 : goal.invariant_of-self-2
invariant_of-self-2 g c = let k = c.in-Ok.ensures.closed in
    let at = goal.at.invariant_of-self-2 g c in
    let h = frees g at.In-Ok in
    let class = classed g at.In-Some-class_of in
    let lowered = slice_set c.self.inside.charges (word_owner k.0)
    (slice_index c.self.inside.charges (word_owner k.0) - 8 * c.in-Some-class_of.class) in
    rw (c.lower.ensures, c.block_bytes.ensures.value, k.3)
    (right_changed g.S.SlotWords.number g.S.SlotWords.records _ _ c.args.handle.place.page _ _
    (page_change h class) (stays g at.After-settled) g.met.S.SlotWords.numbered _
    c.self.inside.charges lowered _ c.self.inside.queues c.requeue.new.queues c.self.invariant
    (queued g at.After-requeue (arena_is g at.After-arena-arena))
    (length-set c.self.inside.charges (word_owner k.0) _ ∙ c.self.invariant.counted)
    (charge_lowered g.S.SlotWords.records _ _ _ _ (slot_of c.args.handle.place)
    (8 * c.in-Some-class_of.class) (word_owner k.0) c.self.inside.charges
    c.self.invariant.counted (owner_below h) c.self.invariant.charged
    (word_generation k.0) (word_generation k.0) (place_change h class) (was_open h)))

pub returns-clause-elsewhere : goal.returns-clause-elsewhere
returns-clause-elsewhere g c = λ e. absurd (true≢false (sym
    (found_held g.S.SlotWords.number c.args.self.now.segments c.args.handle.place.segment
    c.in-Some.found c.in-Some.ensures.some) ∙ e))

pub returns-clause-freed : goal.returns-clause-freed
returns-clause-freed g c = rw (← c.self.view_is)
    (done_ends c.args.policy.now c.args.actor c.args.handle
    (frees g (goal.at.returns-clause-freed g c).In-Ok) c.in-Ok.ensures.closed.2)

pub returns-clause-lists : goal.returns-clause-lists
returns-clause-lists g c =
    let at = goal.at.returns-clause-lists g c in
    let h = frees g at.In-Ok in
    rw (← c.self.view_is) (came_home h (classed g at.In-Some-class_of) c.args.handle.generation
    (generation_freed c.args.policy.now c.args.actor c.args.handle h c.in-Ok.ensures.closed.2))

pub returns-clause-records : goal.returns-clause-records
returns-clause-records g c = rw (← c.self.view_is)
    (freed_alone c.args.policy.now c.args.actor c.args.handle
    (frees g (goal.at.returns-clause-records g c).In-Ok) c.in-Ok.ensures.closed.2)

pub returns-clause-queues : goal.returns-clause-queues
returns-clause-queues g c =
    let at = goal.at.returns-clause-queues g c in
    let h = frees g at.In-Ok in
    let class = classed g at.In-Some-class_of in
    let key = key_of c.index_mut-segment.result.now.arena
    (number_of_size c.in-Some-class_of.class) in (
      key,
      rw (← c.self.view_is) (key_was h class),
      rw (← c.self.view_is) (queued g at.After-requeue (arena_is g at.After-arena-arena)
          ∙ ap (λ (b : Bool). requeued key (page_number c.args.handle.place) b
          c.self.inside.queues) (sym (place_now h class))),
    )

pub returns-clause-served : goal.returns-clause-served
returns-clause-served g c = let k = c.in-Ok.ensures.closed in let w = g.S.SlotWords in
    rw (← c.self.view_is) (
      k.0,
      closed_step (frees g (goal.at.returns-clause-served g c).In-Ok),
      judged_as w.number w.records w.shows w.steps g.met.S.SlotWords.fits c.args.policy.now
          c.args.actor.0 right.Free c.args.handle k.0 c.index_mut-segment.result.now None
          k.1.shown k.2,
    )
