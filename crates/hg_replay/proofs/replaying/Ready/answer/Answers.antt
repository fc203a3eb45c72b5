use Rattle.std.proofs.Common.{[], ◌∙◌}
use Rattle.std.proofs.lemmas.Result.{on_ok_weaker}
use Rattle.hg_replay.proofs.replaying.Ready.answer.Goals as goal

pub returns-clause-answered : goal.returns-clause-answered
returns-clause-answered g c =
    let seen = g.W.Sink.seen in
    on_ok_weaker c.finish.result
    (λ wrote names labels meant numbered.
    let (text, answered, gives) = c.replay_line.ensures.answered names labels (c.as_slice.ensures.value ∙ meant) numbered in
    (text, answered, wrote (seen c.args.out.now) text (gives (seen c.args.out.now) [] (c.new-output.ensures.given (seen c.args.out.now)))))
    c.finish.ensures.ok
