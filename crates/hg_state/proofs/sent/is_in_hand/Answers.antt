use Rattle.std.proofs.Common.{◌≡◌, ◌<◌, ◌||◌, length, get_or, take_all, None, sym, ap, ◌∙◌, arith}
use Rattle.std.proofs.lemmas.List.Folds.{list_any_at, list_any_more}
use Rattle.std.specs.List.{list_any}
use Rattle.hg_place.specs.Places.{number_of}
use Rattle.hg_machine.specs.Holders.{is_number}
use Rattle.hg_state.proofs.sent.is_in_hand.Goals as goal

pub returns-then-has_in_hand : goal.returns-then-has_in_hand
returns-then-has_in_hand c =
    let s = c.args.core.now.state in
    let count = c.workers-worker-end.ensures.workers ∙ ap (λ p. p.workers) c.policy.ensures.value in
    let within : c.loop-worker.worker < length s.hands = omega (arith, c.loop-worker-test.true, c.loop-worker.auto.worker-end, count, c.policy.ensures.kept.0.whole.hands) in
    sym (list_any_at (is_number (number_of c.args.place)) s.hands c.loop-worker.worker None within (sym c.has_in_hand.ensures ∙ c.if-has_in_hand.true))

pub loop-worker-preserved : goal.loop-worker-preserved
loop-worker-preserved c =
    let s = c.args.core.now.state in
    let p = is_number (number_of c.args.place) in
    let count = c.workers-worker-end.ensures.workers ∙ ap (λ p. p.workers) c.policy.ensures.value in
    let within : c.loop-worker.worker < length s.hands = omega (arith, c.loop-worker-test.true, c.loop-worker.auto.worker-end, count, c.policy.ensures.kept.0.whole.hands) in
    list_any_more p s.hands c.loop-worker.worker None within
    ∙ ap (λ b. b || p (get_or s.hands c.loop-worker.worker None)) c.loop-worker.invariant
    ∙ (sym c.has_in_hand.ensures ∙ c.if-has_in_hand.false)

pub returns : goal.returns
returns c =
    let s = c.args.core.now.state in
    let p = is_number (number_of c.args.place) in
    let count = c.workers-worker-end.ensures.workers ∙ ap (λ p. p.workers) c.policy.ensures.value in
    let ends : length s.hands ≡ c.loop-worker.worker = omega (arith, c.loop-worker-test.false, c.loop-worker.auto.worker-end, count, c.policy.ensures.kept.0.whole.hands) in
    sym (ap (list_any p) (sym (take_all c.loop-worker.worker s.hands (omega (arith, ends)))) ∙ c.loop-worker.invariant)
