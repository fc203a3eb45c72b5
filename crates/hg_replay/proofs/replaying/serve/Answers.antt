use Rattle.std.proofs.Common.{subst, ◌∙◌}
use Rattle.hg_machine.proofs.Preserves.{steps_keep_policy}
use Rattle.hg_replay.specs.Text.{answer_line}
use Rattle.hg_replay.specs.Writes.{Emits}
use Rattle.hg_replay.proofs.replaying.serve.Goals as goal

pub returns-clause-given : goal.returns-clause-given
returns-clause-given g c =
    let seen = g.W.Sink.seen in
    let kept = steps_keep_policy c.args.core.now.state c.args.worker c.args.event c.step-answer.result c.step-answer.new.self.state c.step-answer.ensures.step in
    subst
    (λ p. Emits (seen c.args.out.now) c.args.output.now (seen c.put_answer.new.out) c.put_answer.new.self (answer_line p c.step-answer.result))
    (c.policy.ensures.value ∙ kept) c.put_answer.ensures
