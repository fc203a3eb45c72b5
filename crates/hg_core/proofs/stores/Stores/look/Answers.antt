use Rattle.std.proofs.Common.{Some, sym, ap, ◌∙◌}
use Rattle.std.specs.Box.{boxed_slice_with_item}
use Rattle.hg_heap.specs.Answers.{refused_answer, away_answer, list_denial}
use Rattle.hg_events.specs.Elsewhere.{word_at}
use Rattle.hg_core.proofs.After.{IsAfter}
use Rattle.hg_core.proofs.Away.{look_away, refused_by_heap}
use Rattle.hg_core.proofs.HeapCall.{here, heap_call}
use Rattle.hg_core.proofs.OwnCalls.{after_look, after_unlisted}
use Rattle.hg_machine.specs.declared.Event.TheVariants as event
use Rattle.hg_machine.specs.declared.Answer.TheVariants as answer
use Rattle.hg_core.proofs.stores.Stores.look.Goals as goal

pub returns-then-not-holds-clause-step : goal.returns-then-not-holds-clause-step
returns-then-not-holds-clause-step c =
    look_away c.args.self.now c.args.worker c.holds.ensures.kept c.requires c.args.actor
    c.args.place (refused_answer c.unlisted.result)
    (sym c.holds.ensures.value ∙ c.if-not-holds.true)
    (c.unlisted.ensures
    ∙ ap (λ w. away_answer (list_denial c.self.inside.policy c.args.actor c.args.place w))
    c.word-word.ensures
    ∙ ap (λ x. away_answer (list_denial x.policy c.args.actor c.args.place
    (word_at c.args.self.now c.args.place))) c.self.view_is)

pub returns-then-not-holds-clause-chosen : goal.returns-then-not-holds-clause-chosen
returns-then-not-holds-clause-chosen c =
    refused_by_heap c.args.self.now c.args.worker (event.Look c.args.actor c.args.place)
    c.unlisted.result (returns-then-not-holds-clause-step c)

pub look-row-requires-clause-held : goal.look-row-requires-clause-held
look-row-requires-clause-held c =
    here c.self.invariant c.self.view_is c.requires c.from.ensures c.index_mut-heap.ensures.value
    c.args.place.segment (sym c.holds.ensures.value ∙ c.if-not-holds.false)

-- without a row, by the verdict on the word that was shown
unlisted : (c : goal.After-unlisted-in_default) → IsAfter c.args.self.now
    (record c.self.inside {
      heaps = boxed_slice_with_item c.self.inside.heaps c.from.result c.look-row.new.self;
    })
    c.args.worker (event.Look c.args.actor c.args.place)
    (refused_answer c.unlisted-in_default.result)
unlisted c =
    after_unlisted (heap_call c.self.invariant c.self.view_is c.requires c.from.ensures
    c.index_mut-heap.ensures.value c.look-row.new.self c.settled.ensures.each) c.args.actor
    c.args.place c.look-row.new.shown c.unlisted-in_default.result c.unlisted-in_default.ensures
    (c.in_default.ensures.step, c.in_default.ensures.ties)
    (record { lists = c.look-row.ensures.lists; queues = c.look-row.ensures.queues })

pub invariant_of-self : goal.invariant_of-self
invariant_of-self c = (unlisted c).stored

pub returns-in_default : goal.returns-in_default
returns-in_default c =
    record { step = (unlisted c).step; chosen = (unlisted c).chosen; kept = (unlisted c).stored.kept }

listed : (c : goal.In-Some) → IsAfter c.args.self.now
    (record c.self.inside {
      heaps = boxed_slice_with_item c.self.inside.heaps c.from.result c.look-row.new.self;
    })
    c.args.worker (event.Look c.args.actor c.args.place) (answer.Listed c.in-Some.row)
listed c =
    after_look (heap_call c.self.invariant c.self.view_is c.requires c.from.ensures
    c.index_mut-heap.ensures.value c.look-row.new.self c.settled.ensures.each) c.args.actor
    c.args.place c.look-row.new.shown (Some c.in-Some.row) (
      c.in-Some.ensures.step,
      c.in-Some.ensures.ties,
    )
    (record { lists = c.look-row.ensures.lists; queues = c.look-row.ensures.queues })

pub invariant_of-self-2 : goal.invariant_of-self-2
invariant_of-self-2 c = (listed c).stored

pub returns : goal.returns
returns c =
    record { step = (listed c).step; chosen = (listed c).chosen; kept = (listed c).stored.kept }
