use Rattle.std.proofs.Common.{◌≡◌, ◌≢◌, Option, Result, Ok, Err, IfErr, map, refl, sym, ap, subst, ◌∙◌}
use Rattle.hg_place.specs.declared.Handle.{Handle}
use Rattle.hg_machine.specs.declared.Answer.{Answer}
use Rattle.hg_machine.specs.declared.Answer.TheVariants as answer
use Rattle.hg_machine.specs.declared.Event.TheVariants as event
use Rattle.hg_heap.specs.Answers.{done_answer}
use Rattle.hg_heap.specs.declared.refused.Refused.{Refused}
use Rattle.hg_heap.specs.declared.refused.Refused.TheVariants as refused
use Rattle.hg_heap.specs.Held.{Held, lists_on}
use Rattle.hg_heap.specs.Keeping.{rest_of}
use Rattle.hg_run_table.specs.declared.segment.RunSegment.{RunSegment}
use Rattle.hg_run_worker.specs.AtWork.{HasCalledHere, hand_after, number_in, records_in}
use Rattle.hg_run_worker.proofs.Ready.{freed_here}
use Rattle.hg_run_worker.proofs.worker.RunWorker.free.Goals as goal

-- a Free here leaves what is in hand
kept : {X : Type 0} (r : Result X Refused) (handle : Handle) (hand : Option Handle)
    → hand_after (done_answer r) handle hand ≡ hand
kept (Ok done) handle hand = refl
kept (Err (refused.Denied rule)) handle hand = refl
kept (Err refused.TooLarge) handle hand = refl
kept (Err refused.NoRoom) handle hand = refl
kept (Err refused.Elsewhere) handle hand = refl
kept (Err refused.OutOfBlock) handle hand = refl

pub returns-then-holds-clause-freed : goal.returns-then-holds-clause-freed
returns-then-holds-clause-freed c =
    let s = c.args.self.now in
    freed_here s c.free_here.new.self
    (ap (λ (a : Answer). hand_after a c.args.handle s.hand) c.done_answer.ensures
    ∙ kept c.free_here.result c.args.handle s.hand)
    (subst
    (λ (a : Answer). HasCalledHere (event.Free c.args.actor c.args.handle) a s c.free_here.new.self)
    (sym c.done_answer.ensures) c.free_here.ensures.called)

-- what isn't Done is an error
not_done : {X : Type 0} {P : Type 0} (r : Result X Refused) → done_answer r ≢ answer.Done
    → IfErr r (λ refused. P) → P
not_done (Ok done) ne is = absurd (ne refl)
not_done (Err refused) ne is = is

pub returns-then-holds-clause-refused : goal.returns-then-holds-clause-refused
returns-then-holds-clause-refused c = λ ne.
    let e = c.free_here.ensures in
    let no : done_answer c.free_here.result ≢ answer.Done = λ is. ne (c.done_answer.ensures ∙ is) in
    record {
      all = not_done c.free_here.result no e.kept;
      lists = not_done c.free_here.result no e.lists;
      queues = not_done c.free_here.result no e.queues;
    }

pub returns-clause-refused : goal.returns-clause-refused
returns-clause-refused c = λ ne.
    let same : c.free_away.new.self.heap ≡ c.args.self.now.heap = c.free_away.ensures.heap in
    record {
      all = ap (λ (h : Held RunSegment). map (rest_of number_in records_in) h.segments) same;
      lists = λ page. ap (λ (h : Held RunSegment). lists_on number_in h.segments page) same;
      queues = ap (λ (h : Held RunSegment). h.queues) same;
    }
