use Rattle.std.proofs.lemmas.Result.{err_from_is_err_and}
use Rattle.hg_trace.specs.Stored.{lines_in}
use Rattle.hg_replay.proofs.Endings.{replay_ends, trace_ends}
use Rattle.hg_replay.proofs.run.run.Goals as goal

pub returns-in_err-trace : goal.returns-in_err-trace
returns-in_err-trace g c =
    let p = err_from_is_err_and c.from_residual-in_err-trace.result c.from_residual-in_err-trace.ensures.1 in
    rw (p.1, p.2)
    (trace_ends c.args.policy.now c.args.trace.now (g.W.Sink.seen c.args.out.now) c.in_ok-policy.policy c.in_ok-policy.ensures
    c.in_err-trace.field-0.0 c.in_err-trace.ensures.err)

pub returns-in_err-replay : goal.returns-in_err-replay
returns-in_err-replay g c =
    let p = err_from_is_err_and c.from_residual-in_err-replay.result c.from_residual-in_err-replay.ensures.1 in
    rw (p.1, p.2)
    (replay_ends c.args.policy.now c.args.trace.now (g.W.Sink.seen c.args.out.now) (g.W.Sink.seen c.replay.new.out)
    c.in_ok-policy.policy (lines_in c.in_ok-trace.trace) c.in_ok-policy.ensures c.in_ok-trace.ensures.ok c.in_err-replay.field-0.0 c.in_err-replay.ensures)
