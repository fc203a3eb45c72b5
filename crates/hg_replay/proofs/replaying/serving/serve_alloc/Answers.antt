use Rattle.std.proofs.Common.{◌∙◌, refl, subst}
use Rattle.hg_heap.specs.Answers.{refused_answer}
use Rattle.hg_machine.specs.declared.Answer.TheVariants as answer
use Rattle.hg_replay.specs.Writes.{Emits}
use Rattle.hg_replay.proofs.Answering.{no_handle}
use Rattle.hg_replay.proofs.replaying.serving.serve_alloc.Goals as goal

pub returns-in-Ok : goal.returns-in-Ok
returns-in-Ok g c =
    (answer.Block c.in-Ok.handle, refl, record { chosen = c.in-Ok.ensures.chosen; given = c.put_block.ensures })

pub returns-in-Err : goal.returns-in-Err
returns-in-Err g c =
    let seen = g.W.Sink.seen in (
      refused_answer c.in-Err.refused,
      no_handle c.in-Err.refused,
      record {
        chosen = c.in-Err.ensures.chosen;
        given =
            subst (λ line. Emits (seen c.args.out.now) c.args.output.now (seen c.put.new.out) c.put.new.self line)
            (c.as_bytes.ensures.value ∙ c.refused_line.ensures c.args.core.now.state.policy) c.put.ensures;
      },
    )
