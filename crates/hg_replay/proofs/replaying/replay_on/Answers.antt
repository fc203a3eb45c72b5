use Rattle.std.proofs.Common.{refl}
use Rattle.std.proofs.lemmas.Result.{on_err_weaker}
use Rattle.hg_trace.specs.Stored.{lines_in}
use Rattle.hg_replay.specs.Replays.{Progress}
use Rattle.hg_replay.proofs.GoingOn.{replays_stop_last}
use Rattle.hg_replay.proofs.replaying.replay_on.Goals as goal

pub returns-in-Ok-clause-stopped : goal.returns-in-Ok-clause-stopped
returns-in-Ok-clause-stopped g c =
    let seen = g.W.Sink.seen in
    let (text, replayed, given, going) = c.in-Ok.ensures.ok in
    let end : Progress = record { kept = c.replay_lines.new.core; handles = c.replay_lines.new.handles.items } in
    on_err_weaker c.finish.result
    (λ stopped. (
      end,
      refl,
      replays_stop_last c.args.core.now (seen c.args.out.now) (seen c.replay_lines.new.out) (seen c.finish.new.out) c.replay_lines.new.output going stopped
          (lines_in c.args.trace.now) end text replayed given,
    ))
    c.finish.ensures.stopped
