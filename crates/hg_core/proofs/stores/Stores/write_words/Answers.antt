use Rattle.std.proofs.Common.{◌≡◌, ◌+◌, take, replicate, length, sym, subst, ap, ◌∙◌, slice_index}
use Rattle.std.specs.Prelude.{IfSome}
use Rattle.std.proofs.lemmas.List.{length-take-le}
use Rattle.hg_heap.specs.Answers.{refused_answer}
use Rattle.hg_heap.proofs.HowFars.{comes_few, on_next}
use Rattle.hg_machine.specs.declared.Answer.TheVariants as answer
use Rattle.hg_machine.specs.declared.Event.TheVariants as event
use Rattle.hg_agreement.specs.Parts.{kept_of}
use Rattle.hg_events.specs.Core.{parts_of}
use Rattle.hg_choice.specs.ChosenSteps.{Chosen}
use Rattle.hg_core.specs.Stored.{core_of}
use Rattle.hg_core.specs.WordEvents.{writes}
use Rattle.hg_core.proofs.Away.{write_away, refused_by_heap}
use Rattle.hg_core.proofs.HeapCall.{IsHeapCall, here, heap_call}
use Rattle.hg_core.proofs.WrittenRuns.{with_own, written_stored, written_run, written_next}
use Rattle.hg_core.proofs.stores.Stores.write_words.Goals as goal

pub returns-then-not-holds-clause-next : goal.returns-then-not-holds-clause-next
returns-then-not-holds-clause-next c =
    let s = c.args.self.now in
    let index = c.args.first + 0 in
    let value = slice_index c.args.words.now 0 in
    refused_by_heap s c.args.worker
    (event.Write c.args.actor c.args.handle index value) c.out_of_reach.result
    (write_away s c.args.worker c.holds.ensures.kept c.requires.worker c.args.actor c.args.handle
    index value (refused_answer c.out_of_reach.result)
    (sym c.holds.ensures.value ∙ c.if-not-holds.true) c.out_of_reach.ensures)

pub write_words-far-requires-clause-held : goal.write_words-far-requires-clause-held
write_words-far-requires-clause-held c =
    here c.self.invariant c.self.view_is c.requires.worker c.from.ensures
    c.index_mut-heap.ensures.value c.args.handle.place.segment
    (sym c.holds.ensures.value ∙ c.if-not-holds.false)

call : (c : goal.After-self-1) → IsHeapCall c.self.inside c.args.self.now c.from.result
    c.args.worker c.index_mut-heap.result.now c.write_words-far.new.self
call c =
    heap_call c.self.invariant c.self.view_is c.requires.worker c.from.ensures
    c.index_mut-heap.ensures.value c.write_words-far.new.self c.settled.ensures.each

pub invariant_of-self : goal.invariant_of-self
invariant_of-self c =
    let told = c.write_words-far.ensures in
    written_stored c.args.actor c.args.handle (call c)
    (take c.write_words-far.result.done c.args.words.now) c.args.first told.run told.queues

pub returns : goal.returns
returns c =
    let told = c.write_words-far.ensures in
    let far = c.write_words-far.result in
    let words = take far.done c.args.words.now in
    let after = core_of (with_own c.self.inside c.from.result c.write_words-far.new.self) in
    record {
      run =
          subst (λ n. Chosen (kept_of (parts_of c.args.self.now))
          (writes c.args.worker c.args.actor c.args.handle c.args.first words)
          (replicate n answer.Done) (kept_of (parts_of after)))
          (length-take-le far.done c.args.words.now
          (comes_few (length c.args.words.now) far told.end))
          (written_run c.args.actor c.args.handle (call c) words c.args.first told.run told.queues);
      next =
          on_next far.refused
          (λ why. written_next c.args.actor c.args.handle (call c) words c.args.first told.run
          told.queues (c.args.first + far.done) (slice_index c.args.words.now far.done) why)
          told.next;
      end = told.end;
      kept = (invariant_of-self c).kept;
    }
