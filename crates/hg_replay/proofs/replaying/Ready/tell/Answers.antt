use Rattle.std.proofs.Common.{[], ◌∙◌}
use Rattle.hg_replay.proofs.replaying.Ready.tell.Goals as goal

pub returns-in-Ok-clause-told : goal.returns-in-Ok-clause-told
returns-in-Ok-clause-told g c = λ names labels meant numbered.
    let seen = g.W.Sink.seen in
    let known = c.as_slice.ensures.value ∙ meant in
    let (text, answered, gives) = c.replay_other-told.ensures.answered names labels known numbered in
    let told = c.replay_other-told.ensures.told names labels known numbered in
    (text, answered, told, c.in-Ok.ensures.ok (seen c.args.out.now) text (gives (seen c.args.out.now) [] (c.new-output.ensures.given (seen c.args.out.now))))
