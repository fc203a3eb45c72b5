use Rattle.std.proofs.Common.{◌≡◌, ℕ, ◌+◌, ◌<◌, Ok, Err, sym, refl, ◌∙◌, slice_index}
use Rattle.std.specs.Prelude.{Result, IfSome}
use Rattle.std.specs.Box.{boxed_slice_with_item}
use Rattle.hg_heap.specs.declared.refused.Refused.{Refused}
use Rattle.hg_heap.specs.Answers.{read_answer, refused_answer}
use Rattle.hg_chosen.specs.Same.{IsSame}
use Rattle.hg_core.proofs.After.{IsAfter}
use Rattle.hg_core.proofs.Away.{read_away, refused_by_heap}
use Rattle.hg_core.proofs.HeapCall.{here, heap_call}
use Rattle.hg_core.proofs.OwnCalls.{after_read}
use Rattle.hg_machine.specs.declared.Event.TheVariants as event
use Rattle.hg_core.proofs.stores.Stores.read_words.Goals as goal

pub returns-then-not-holds-clause-next : goal.returns-then-not-holds-clause-next
returns-then-not-holds-clause-next c =
    let s = c.args.self.now in
    let why = c.out_of_reach.result in (
      Err why,
      refused_by_heap s c.args.worker
          (event.Read c.args.actor c.args.handle (c.args.first + 0)) why
          (read_away s c.args.worker c.holds.ensures.kept c.requires.worker c.args.actor
          c.args.handle (c.args.first + 0) (refused_answer why)
          (sym c.holds.ensures.value ∙ c.if-not-holds.true) c.out_of_reach.ensures),
      refl,
    )

pub read_words-far-requires-clause-held : goal.read_words-far-requires-clause-held
read_words-far-requires-clause-held c =
    here c.self.invariant c.self.view_is c.requires.worker c.from.ensures
    c.index_mut-heap.ensures.value c.args.handle.place.segment
    (sym c.holds.ensures.value ∙ c.if-not-holds.false)

abbrev After : goal.After-self-1 → ℕ → Result ℕ Refused → Type 0
After c index told =
    IsAfter c.args.self.now
    (record c.self.inside {
      heaps = boxed_slice_with_item c.self.inside.heaps c.from.result c.read_words-far.new.self;
    })
    c.args.worker (event.Read c.args.actor c.args.handle index) (read_answer told)

-- the Reads of the words that came, and that of the next
after : (c : goal.After-self-1)
    → ((at : ℕ) → at < c.read_words-far.result.done
    → After c (c.args.first + at) (Ok (slice_index c.read_words-far.new.room at)))
    × ((told : Result ℕ Refused) × After c (c.args.first + c.read_words-far.result.done) told
    × IfSome c.read_words-far.result.refused (λ why. told ≡ Err why))
after c =
    let ties = c.read_words-far.ensures.ties in
    let call = heap_call c.self.invariant c.self.view_is c.requires.worker c.from.ensures
    c.index_mut-heap.ensures.value c.read_words-far.new.self c.settled.ensures.each in
    let same : IsSame c.index_mut-heap.result.now c.read_words-far.new.self = record {
      lists = c.read_words-far.ensures.lists;
      queues = c.read_words-far.ensures.queues;
    } in (
      λ at lt. after_read call c.args.actor c.args.handle (c.args.first + at) ties.0
          (Ok (slice_index c.read_words-far.new.room at)) (ties.2, ties.3 at lt) same,
      (
        ties.1,
        after_read call c.args.actor c.args.handle (c.args.first + c.read_words-far.result.done)
            ties.0 ties.1 (ties.2, ties.4) same,
        ties.5,
      ),
    )

pub invariant_of-self : goal.invariant_of-self
invariant_of-self c = (after c).1.1.stored

pub returns : goal.returns
returns c = record {
  each = λ at lt. ((after c).0 at lt).chosen;
  next = ((after c).1.0, (after c).1.1.chosen, (after c).1.2);
  end = c.read_words-far.ensures.end;
  rest = c.read_words-far.ensures.rest;
  kept = (after c).1.1.stored.kept;
}
