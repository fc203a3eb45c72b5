use Rattle.std.proofs.Common.{◌∙◌, subst}
use Rattle.hg_core.specs.Answers.{free_answer}
use Rattle.hg_replay.specs.Writes.{Emits}
use Rattle.hg_replay.proofs.replaying.serving.serve_free.Goals as goal

pub returns : goal.returns
returns g c =
    let seen = g.W.Sink.seen in (
      free_answer c.free-told.result,
      record {
        chosen = c.free-told.ensures.chosen;
        given =
            subst (λ line. Emits (seen c.args.out.now) c.args.output.now (seen c.put.new.out) c.put.new.self line)
            (c.as_bytes.ensures.value ∙ c.freed_line.ensures c.args.core.now.state.policy) c.put.ensures;
      },
    )
