use Rattle.std.proofs.Common.{◌≡◌, ◌++◌, ap, sym, subst, ◌∙◌}
use Rattle.hg_trace.specs.Stored.{line_in}
use Rattle.hg_replay.specs.Replays.{Answered}
use Rattle.hg_reasons.proofs.explain.told_by.Goals as goal

-- the reply was empty, and is what was written to it
pub returns-in-Ok-clause-told : goal.returns-in-Ok-clause-told
returns-in-Ok-clause-told c = λ names labels meant numbered.
    let (text, answered, told, wrote) = c.in-Ok.ensures.told names labels meant numbered in
    let all : c.tell.new.out.items ≡ text = wrote ∙ ap (λ front. front ++ text) c.new-reply.ensures.items in (
      subst (λ t. Answered (record { kept = c.args.ready.now.core; handles = c.args.ready.now.handles.items }) (line_in names labels c.args.line.now)
          (record { kept = c.tell.new.self.core; handles = c.tell.new.self.handles.items }) t) (sym all) answered,
      told,
    )
