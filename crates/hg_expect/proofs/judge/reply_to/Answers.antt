use Rattle.std.proofs.Common.{◌≡◌, ◌++◌, ap, sym, subst, ◌∙◌}
use Rattle.hg_trace.specs.Stored.{line_in}
use Rattle.hg_replay.specs.Replays.{Answered}
use Rattle.hg_expect.proofs.judge.reply_to.Goals as goal

-- the reply was empty, and is what was written to it
pub returns-in-Ok-clause-answered : goal.returns-in-Ok-clause-answered
returns-in-Ok-clause-answered c = λ names labels meant numbered.
    let (text, answered, wrote) = c.in-Ok.ensures.answered names labels meant numbered in
    let all : c.answer.new.out.items ≡ text = wrote ∙ ap (λ front. front ++ text) c.new-reply.ensures.items in
    subst (λ t. Answered (record { kept = c.args.ready.now.core; handles = c.args.ready.now.handles.items }) (line_in names labels c.args.line.now)
    (record { kept = c.answer.new.self.core; handles = c.answer.new.self.handles.items }) t) (sym all) answered
