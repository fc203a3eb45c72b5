use Rattle.std.specs.Prelude.{option_map}
use Rattle.std.proofs.Common.{◌≡◌, ℕ, ◌∙◌, List, Some, None, sym, ap, subst, arith}
use Rattle.std.proofs.lemmas.Bool.{eqb-true}
use Rattle.hg_place.specs.Lives.{live_word}
use Rattle.hg_place.specs.Places.{number_of, segment_of}
use Rattle.hg_machine.specs.declared.Answer.TheVariants as answer
use Rattle.hg_machine.specs.declared.Event.TheVariants as event
use Rattle.hg_machine.specs.Policy.{Policy}
use Rattle.hg_machine.specs.Request.{size_of}
use Rattle.hg_heap.specs.Allowed.{MayAlloc}
use Rattle.hg_heap.specs.Choice.{chosen_place}
use Rattle.hg_heap.specs.Held.{Held, is_held}
use Rattle.hg_heap.specs.Policies.{AreOf}
use Rattle.hg_heap.specs.Refusals.{refusal_of}
use Rattle.hg_heap.specs.Ties.{HeapTies, shown_at}
use Rattle.hg_heap.proofs.PolicyKept.{kinds_keep_policy}
use Rattle.hg_run_table.specs.declared.segment.RunSegment.{RunSegment}
use Rattle.hg_run_worker.specs.AtWork.{number_in, records_in, shows_in}
use Rattle.hg_run_worker.specs.Lent.{IsTiedStep}
use Rattle.hg_run_worker.proofs.ChosenStays.{chosen_stays, refusal_stays}
use Rattle.hg_run_worker.proofs.Course.{has_loan, held_still}
use Rattle.hg_run_worker.proofs.Lettable.{allows_in, may_alloc}
use Rattle.hg_run_worker.proofs.Ready.{has_called, rest_twice}
use Rattle.hg_run_worker.proofs.SlotsLent.{kinds_stay}
use Rattle.hg_run_worker.proofs.worker.RunWorker.alloc_at.Goals as goal
use Rattle.hg_run_worker.proofs.worker.RunWorker.alloc_at.Goals.{After-settled, In-Ok}
use Rattle.hg_run_worker.proofs.worker.RunWorker.alloc_at.Given.{Over}

-- the segments are as the policy has them, and the same place is chosen
of_lent : (g : Over) (c : After-settled g)
    → AreOf number_in c.args.self.now.policy c.lend.new.self.heap.segments
of_lent g c =
    let l = c.lend.ensures.lent in
    kinds_keep_policy number_in c.args.self.now.policy c.args.self.now.heap.segments
    c.lend.new.self.heap.segments (kinds_stay l.once l.lent) c.requires.ready.of

heap_is : (g : Over) (c : After-settled g)
    → c.lend.new.self.heap
    ≡ record { segments = c.lend.new.self.heap.segments; queues = c.args.self.now.heap.queues }
heap_is g c =
    ap (λ (q : List (List ℕ)). record { segments = c.lend.new.self.heap.segments; queues = q })
    c.lend.ensures.queues

same_choice : (g : Over) (c : After-settled g)
    → chosen_place number_in records_in c.lend.new.self.heap c.args.arena (size_of c.args.bytes)
    ≡ chosen_place number_in records_in c.args.self.now.heap c.args.arena (size_of c.args.bytes)
same_choice g c =
    let l = c.lend.ensures.lent in
    ap
    (λ (h : Held RunSegment). chosen_place number_in records_in h c.args.arena (size_of c.args.bytes))
    (heap_is g c)
    ∙ chosen_stays l.once l.lent c.lend.ensures.lists c.args.self.now.heap.queues c.args.arena
    (size_of c.args.bytes)

chosen_in : (g : Over) (c : After-settled g)
    → option_map segment_of
    (chosen_place number_in records_in c.lend.new.self.heap c.args.arena (size_of c.args.bytes))
    ≡ Some c.args.segment
chosen_in g c = ap (option_map segment_of) (same_choice g c) ∙ c.requires.chosen

pub alloc-requires-clause-policy : goal.alloc-requires-clause-policy
alloc-requires-clause-policy g c =
    subst (λ (p : Policy). AreOf number_in p c.lend.new.self.heap.segments)
    (sym c.lend.ensures.rest.policy)
    (of_lent g (goal.at.alloc-requires-clause-policy g c).After-settled)

pub alloc-requires-clause-allowed : goal.alloc-requires-clause-allowed
alloc-requires-clause-allowed g c =
    let at = (goal.at.alloc-requires-clause-allowed g c).After-settled in
    subst
    (λ (p : Policy).
    MayAlloc shows_in allows_in number_in records_in p c.args.actor.0 c.args.arena c.args.bytes
    c.lend.new.self.heap)
    (sym c.lend.ensures.rest.policy)
    (may_alloc c.lend.ensures.lent c.requires.asked c.args.self.now.below (of_lent g at)
    c.settled.ensures.once c.settled.ensures.each c.settled.ensures.queued c.requires.sized
    (chosen_in g at))

-- it would have been refused before, too
pub unreachable-requires : goal.unreachable-requires
unreachable-requires g c =
    let l = c.lend.ensures.lent in
    let at = (goal.at.unreachable-requires g c).After-settled in
    let refused : None ≡ Some c.in_default.field-0 =
    sym
    (ap
    (λ (p : Policy).
    refusal_of number_in records_in p c.args.actor.0 c.args.arena c.args.bytes c.lend.new.self.heap)
    c.lend.ensures.rest.policy
    ∙ ap
    (λ (h : Held RunSegment).
    refusal_of number_in records_in c.args.self.now.policy c.args.actor.0 c.args.arena c.args.bytes h)
    (heap_is g at)
    ∙ refusal_stays l.once l.lent c.lend.ensures.lists c.args.self.now.policy
    c.args.self.now.heap.queues c.args.actor.0 c.args.arena c.args.bytes
    ∙ c.requires.served)
    ∙ c.in_default.ensures.answered in
    cc

-- the step at which the Alloc is tied
stepped : (g : Over) (c : In-Ok g)
    → option_map segment_of
    (chosen_place number_in records_in c.lend.new.self.heap c.args.arena (size_of c.args.bytes))
    ≡ Some c.args.segment
    → (word : ℕ)
    × IsTiedStep c.args.self.now.policy c.args.segment c.in-Ok.handle.place word
    (live_word c.in-Ok.handle.generation c.args.actor.0)
    (event.Alloc c.args.actor c.args.arena c.args.bytes) (answer.Block c.in-Ok.handle)
    c.lend.new.self.heap.segments c.alloc.new.self.segments
stepped g c its =
    let given = c.in-Ok.ensures.given in
    let place = c.in-Ok.handle.place in (
      given.0.word,
      record {
        inside =
            (let both : Some (segment_of (number_of place)) ≡ Some c.args.segment =
            sym (ap (option_map segment_of) c.in-Ok.ensures.chosen) ∙ its in
            let same : segment_of (number_of place) ≡ c.args.segment = cc in
            let a = place.page_below in
            let b = place.index_below in
            omega (arith, same, a, b));
        stepped = given.0.stepped;
        ties =
            subst
            (λ (p : Policy).
            HeapTies number_in records_in p (shown_at place given.0.word)
            (shown_at place (live_word c.in-Ok.handle.generation c.args.actor.0))
            (event.Alloc c.args.actor c.args.arena c.args.bytes) (answer.Block c.in-Ok.handle)
            c.lend.new.self.heap.segments c.alloc.new.self.segments)
            c.lend.ensures.rest.policy given.1;
        alone = λ other t. sym (eqb-true (number_of place) other t);
      },
    )

pub take_back-requires-clause-held : goal.take_back-requires-clause-held
take_back-requires-clause-held g c =
    held_still c.lend.ensures.lent c.requires.asked
    (stepped g (goal.at.take_back-requires-clause-held g c).In-Ok
    (chosen_in g (goal.at.take_back-requires-clause-held g c).After-settled)).1 c.args.self.now.below

pub take_back-requires-clause-loan : goal.take_back-requires-clause-loan
take_back-requires-clause-loan g c =
    has_loan c.lend.ensures.lent c.requires.asked
    (stepped g (goal.at.take_back-requires-clause-loan g c).In-Ok
    (chosen_in g (goal.at.take_back-requires-clause-loan g c).After-settled)).1 c.args.self.now.below

pub returns-clause-called : goal.returns-clause-called
returns-clause-called g c =
    let e = c.take_back.ensures in
    has_called c.args.self.now c.take_back.new.self c.lend.ensures.lent c.requires.asked
    (stepped g (goal.at.returns-clause-called g c).In-Ok
    (chosen_in g (goal.at.returns-clause-called g c).After-settled)).1 c.requires.ready
    (rest_twice c.args.self.now c.lend.new.self c.take_back.new.self c.lend.ensures.rest
    (record { table = e.rest.table; policy = e.rest.policy; number = e.rest.number; own = e.rest.own; hand = e.rest.hand }))
    e.back

-- the choice is that of the heap before the part was lent
pub returns-clause-chosen : goal.returns-clause-chosen
returns-clause-chosen g c =
    sym (same_choice g (goal.at.returns-clause-chosen g c).After-settled) ∙ c.in-Ok.ensures.chosen

-- the block is of the segment that was chosen
pub returns-clause-held : goal.returns-clause-held
returns-clause-held g c =
    let place = c.in-Ok.handle.place in
    let chosen = sym (same_choice g (goal.at.returns-clause-held g c).After-settled) ∙ c.in-Ok.ensures.chosen in
    let both : Some (segment_of (number_of place)) ≡ Some c.args.segment =
    ap (option_map segment_of) (sym chosen) ∙ c.requires.chosen in
    let is : segment_of (number_of place) ≡ c.args.segment = cc in
    let same : place.segment ≡ c.args.segment =
    (let a = place.page_below in
    let b = place.index_below in
    omega (arith, is, a, b)) in
    ap (is_held number_in c.args.self.now.heap.segments) same ∙ c.requires.held
