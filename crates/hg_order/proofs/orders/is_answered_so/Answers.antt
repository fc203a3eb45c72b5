use Rattle.std.proofs.Common.{sym, ap, subst, ◌∙◌, ◌<◌}
use Rattle.std.proofs.lemmas.List.Elements.{All-map}
use Rattle.hg_choice.specs.ChosenSteps.{Chosen}
use Rattle.hg_core.specs.Opening.{opened}
use Rattle.hg_order.specs.Orders.{events_of, answers_of}
use Rattle.hg_order.proofs.Same.{same_list, same_answer}
use Rattle.hg_order.proofs.orders.is_answered_so.Goals as goal

-- the events are of the workers of the calls, and the core has the policy's
pub run-requires : goal.run-requires
run-requires c =
    let each = All-map (λ event. event.0 < c.args.policy.now.workers) (λ call. (call.worker, call.event)) c.args.order.now c.requires in
    let workers = ap (λ s. s.policy.workers) c.in_ok-core.ensures.opening ∙ ap (λ p. p.workers) c.in_ok-copy.ensures in
    record { workers = rw workers (rw (c.deref.ensures.value ∙ c.in_ok-events.ensures) each) }

-- what was given is what the calls have
pub returns : goal.returns
returns c is_true =
    let order = c.args.order.now in
    let end = c.run.new.self in
    let core = c.in_ok-core.ensures.opened ∙ ap opened c.in_ok-copy.ensures in
    let events = c.deref.ensures.value ∙ c.in_ok-events.ensures in
    let answers =
    sym c.as_slice.ensures.value
    ∙ same_list _ same_answer _ _ (sym c.eq-is_so.ensures ∙ is_true)
    ∙ c.as_slice-2.ensures.value
    ∙ c.in_ok-answers.ensures
    in (
      end,
      subst (λ k. Chosen k (events_of order) (answers_of order) end) core
          (subst (λ asked. Chosen c.in_ok-core.core asked (answers_of order) end) events
          (subst (λ given. Chosen c.in_ok-core.core c.deref.result.now given end) answers
          c.in_ok-given.ensures.chosen)),
    )
