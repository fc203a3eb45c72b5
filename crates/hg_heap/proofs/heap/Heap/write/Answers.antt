use Rattle.std.proofs.Common.{◌∙◌, sym, ap}
use Rattle.std.proofs.lemmas.Bool.{true≢false}
use Rattle.hg_place.specs.declared.Right.TheVariants as right
use Rattle.hg_heap.specs.Judged.{rule_in}
use Rattle.hg_heap.proofs.Founds.{found_of, found_held}
use Rattle.hg_heap.proofs.Judging.{rule_reached, judged_as, all_kept, wrote, on_err, on_ok}
use Rattle.hg_heap.proofs.Looking.{heap_lists, heap_right, stepped}
use Rattle.hg_heap.proofs.Reached.{never_elsewhere}
use Rattle.hg_heap.proofs.WriteCall.{write_ends}
use Rattle.hg_heap.proofs.Letting.{lets_look}
use Rattle.hg_heap.proofs.heap.Heap.write.Goals as goal

pub write_word-written-requires : goal.write_word-written-requires
write_word-written-requires g c =
    let w = g.S.SlotWords in
    let here = found_of w.number c.self.inside.segments.items c.args.handle.place.segment c.in-Some.found
    c.index_mut-segment.result.now (rw (← c.self.view_is) at c.in-Some.ensures.some)
    c.index_mut-segment.ensures.value in
    lets_look w.number w.shows w.allows c.self.inside.segments.items c.args.handle.place c.in-Some.found
    c.index_mut-segment.result.now here (rw (← c.self.view_is) at c.requires.allowed)

pub invariant_of-self : goal.invariant_of-self
invariant_of-self g c =
    let w = g.S.SlotWords in
    let here = found_of w.number c.self.inside.segments.items c.args.handle.place.segment
    c.in-Some.found c.index_mut-segment.result.now
    (rw (← c.self.view_is) at c.in-Some.ensures.some)
    c.index_mut-segment.ensures.value in
    let r = c.write_word-written.ensures.wrote in
    let s = c.settled.ensures in
    heap_right here r.1 _ _ _ _ c.self.invariant
    (record {
      lists = s.lists;
      sizes = s.sizes;
      runs = s.runs;
      bounded = s.bounded;
      opened = s.open;
      listed = s.listed;
      blocks = s.blocks;
      pages = s.all.0;
      classes = s.all.1;
      words = s.all.2;
    })

pub returns : goal.returns
returns g c =
    let w = g.S.SlotWords in
    let here = found_of w.number c.self.inside.segments.items c.args.handle.place.segment
    c.in-Some.found c.index_mut-segment.result.now
    (rw (← c.self.view_is) at c.in-Some.ensures.some)
    c.index_mut-segment.ensures.value in
    let r = c.write_word-written.ensures.wrote in record {
      elsewhere = λ e. absurd (true≢false
          (sym (found_held w.number c.args.self.now.segments c.args.handle.place.segment
          c.in-Some.found
          c.in-Some.ensures.some) ∙ e));
      held = λ _. rw (← c.self.view_is)
          (write_ends w.number w.records w.shows w.steps g.met.S.SlotWords.fits c.args.policy.now
          c.self.inside.segments.items c.in-Some.found r.0 c.args.index c.args.value c.args.actor
          c.args.handle c.index_mut-segment.result.now c.write_word-written.new.segment
          here
          r.1 c.write_word-written.result r.2 c.write_word-written.ensures.err
          c.write_word-written.ensures.ok c.write_word-written.ensures.others);
      lists = rw (← c.self.view_is)
          (heap_lists here r.1);
      queues = ap (λ h. h.queues) c.self.view_is;
      here = λ _. never_elsewhere _ _ c.args.index _ c.write_word-written.result r.2;
      judged = λ _. rw (← c.self.view_is) (
        r.0,
        stepped here r.1,
        judged_as w.number w.records w.shows w.steps g.met.S.SlotWords.fits c.args.policy.now
            c.args.actor.0 right.Write c.args.handle r.0 c.index_mut-segment.result.now
            (rule_in c.write_word-written.result) r.1.shown
            (sym (ap rule_in r.2 ∙ rule_reached _ _ c.args.index _)),
      );
      kept = rw (← c.self.view_is) (on_err _ c.write_word-written.ensures.err
          (all_kept here r.1));
      wrote = rw (← c.self.view_is) (on_ok _ c.write_word-written.ensures.ok
          c.write_word-written.ensures.others
          (wrote here r.1 c.args.index c.args.value));
    }
