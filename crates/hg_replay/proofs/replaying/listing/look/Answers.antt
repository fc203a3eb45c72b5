use Rattle.std.proofs.Common.{◌≡◌, ◌+◌, ◌*◌, sym, ap, subst, ◌∙◌, arith}
use Rattle.hg_place.specs.Places.{place_at}
use Rattle.hg_machine.specs.declared.Event.TheVariants as event
use Rattle.hg_choice.specs.ChosenSteps.{ChosenStep}
use Rattle.hg_replay.specs.Text.{answer_line}
use Rattle.hg_replay.specs.Writes.{Emits}
use Rattle.hg_replay.proofs.Looking.{look_leaves, looked_past, looked_row}
use Rattle.hg_replay.proofs.replaying.listing.look.Goals as goal

pub returns-then-not-is_row : goal.returns-then-not-is_row
returns-then-not-is_row g c =
    let k = c.args.core.now in
    let new = c.step-answer.new.self in
    let answer = c.step-answer.result in
    let w = c.args.worker in
    let actor = c.args.actor in
    let place = c.args.segment * 8192 + c.args.number in
    let named : c.place_at-place.result ≡ place_at place = c.place_at-place.ensures.place ∙ ap (λ n. place_at (n * 8192 + c.args.number)) c.from.ensures in
    let here : ChosenStep k w (event.Look actor (place_at place)) answer new =
    subst (λ p. ChosenStep k w (event.Look actor p) answer new) named c.step-answer.ensures.chosen in
    let same : new ≡ k = look_leaves k new w actor (place_at place) answer here in
    let step : ChosenStep k w (event.Look actor (place_at place)) answer k = subst (λ t. ChosenStep k w (event.Look actor (place_at place)) answer t) same here in
    let seen = g.W.Sink.seen in
    record {
      same = same;
      looked =
          looked_past k w actor place answer step (seen c.args.out.now) c.args.output.now
          (sym c.is_row.ensures ∙ c.if-not-is_row.true);
      few = omega arith;
    }

pub returns : goal.returns
returns g c =
    let k = c.args.core.now in
    let new = c.step-answer.new.self in
    let answer = c.step-answer.result in
    let w = c.args.worker in
    let actor = c.args.actor in
    let place = c.args.segment * 8192 + c.args.number in
    let named : c.place_at-place.result ≡ place_at place = c.place_at-place.ensures.place ∙ ap (λ n. place_at (n * 8192 + c.args.number)) c.from.ensures in
    let here : ChosenStep k w (event.Look actor (place_at place)) answer new =
    subst (λ p. ChosenStep k w (event.Look actor p) answer new) named c.step-answer.ensures.chosen in
    let same : new ≡ k = look_leaves k new w actor (place_at place) answer here in
    let step : ChosenStep k w (event.Look actor (place_at place)) answer k = subst (λ t. ChosenStep k w (event.Look actor (place_at place)) answer t) same here in
    let seen = g.W.Sink.seen in
    let given =
    subst (λ p. Emits (seen c.args.out.now) c.args.output.now (seen c.put_answer.new.out) c.put_answer.new.self (answer_line p answer))
    (c.policy.ensures.value ∙ ap (λ t. t.state.policy) same) c.put_answer.ensures in
    record {
      same = same;
      looked =
          looked_row k w actor place answer step (seen c.args.out.now) c.args.output.now (seen c.put_answer.new.out) c.put_answer.new.self
          (sym c.is_row.ensures ∙ c.if-not-is_row.false) given;
      few = omega arith;
    }
