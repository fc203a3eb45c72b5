use Rattle.std.proofs.Common.{◌+◌, ◌++◌, ◌<◌, take, sym, ap, subst, ◌∙◌, arith}
use Rattle.std.specs.Prelude.{if◌then◌else◌}
use Rattle.hg_trace.specs.Labels.{label_count}
use Rattle.hg_trace.specs.Stored.{line_in, lines_in}
use Rattle.hg_replay.specs.KnownNames.{meanings}
use Rattle.hg_replay.specs.StoredLabels.{binds}
use Rattle.hg_replay.proofs.GoingOn.{replays_next, replays_stop, answered_keeps_policy}
use Rattle.hg_replay.proofs.LinesSaid.{label_count_more, label_within, binds_said, said_within, said_here, numbered_here}
use Rattle.hg_replay.proofs.Writes.{stops_in_line}
use Rattle.hg_replay.proofs.replaying.replay_lines.Goals as goal

pub replay_line-requires-clause-worker : goal.replay_line-requires-clause-worker
replay_line-requires-clause-worker g c =
    let store = c.args.trace.now in
    let i = c.loop-line.line-index in
    let line = c.line-item.result in
    let same = c.stored-line-items.ensures.lines in
    let there = said_here store c.stored-line-items.result.now same i line c.loop-line-test.true c.line-item.is in
    let below = c.requires.workers i (line_in store.names store.labels line) (said_within store c.stored-line-items.result.now same i line c.loop-line-test.true c.line-item.is) in
    let worker : line.worker < c.args.core.now.state.policy.workers = subst (λ l. l.worker < c.args.core.now.state.policy.workers) (sym there) below in
    subst (λ p. line.worker < p.workers) (sym c.loop-line.invariant.policy) worker

pub replay_line-requires-clause-room : goal.replay_line-requires-clause-room
replay_line-requires-clause-room g c = λ given.
    let store = c.args.trace.now in
    let i = c.loop-line.line-index in
    let line = c.line-item.result in
    let same = c.stored-line-items.ensures.lines in
    let within = said_within store c.stored-line-items.result.now same i line c.loop-line-test.true c.line-item.is in
    let there = said_here store c.stored-line-items.result.now same i line c.loop-line-test.true c.line-item.is in
    let more = label_within (lines_in store) i (line_in store.names store.labels line) within there (binds_said store.names store.labels line.command ∙ given) in
    omega (arith, more, c.loop-line.invariant.count, c.loop-line.invariant.room, c.requires.room)

pub returns-then-has_stopped-clause-stopped : goal.returns-then-has_stopped-clause-stopped
returns-then-has_stopped-clause-stopped g c =
    let seen = g.W.Sink.seen in
    let store = c.args.trace.now in
    let i = c.loop-line.line-index in
    let line = c.line-item.result in
    let lines = c.stored-line-items.result.now in
    let same = c.stored-line-items.ensures.lines in
    let within = said_within store lines same i line c.loop-line-test.true c.line-item.is in
    let there = said_here store lines same i line c.loop-line-test.true c.line-item.is in
    let meant = c.requires.meant ∙ ap (λ p. meanings p store.names) (sym c.loop-line.invariant.policy) in
    let numbered = numbered_here store lines same i line c.loop-line-test.true c.line-item.is c.stored-line-items.ensures.numbered in
    let (text, so_far, given) = c.loop-line.invariant.replayed in
    let (here, answered, gives) = c.replay_line.ensures.answered store.names store.labels meant numbered in
    replays_stop c.args.core.now (lines_in store) i (line_in store.names store.labels line) (record { kept = c.loop-line.core; handles = c.loop-line.handles.items }) (record { kept = c.replay_line.new.core; handles = c.replay_line.new.handles.items }) text here within there so_far answered
    (seen c.args.out.now) (seen c.replay_line.new.out)
    (stops_in_line (seen c.args.out.now) (seen c.loop-line.out) (seen c.replay_line.new.out) c.loop-line.output c.replay_line.new.output text here given
    c.loop-line.invariant.going (sym c.has_stopped.ensures ∙ c.if-has_stopped.true) gives)

pub loop-line-preserved : goal.loop-line-preserved
loop-line-preserved g c =
    let seen = g.W.Sink.seen in
    let store = c.args.trace.now in
    let i = c.loop-line.line-index in
    let line = c.line-item.result in
    let says = line_in store.names store.labels line in
    let lines = c.stored-line-items.result.now in
    let same = c.stored-line-items.ensures.lines in
    let within = said_within store lines same i line c.loop-line-test.true c.line-item.is in
    let there = said_here store lines same i line c.loop-line-test.true c.line-item.is in
    let meant = c.requires.meant ∙ ap (λ p. meanings p store.names) (sym c.loop-line.invariant.policy) in
    let numbered = numbered_here store lines same i line c.loop-line-test.true c.line-item.is c.stored-line-items.ensures.numbered in
    let (text, so_far, given) = c.loop-line.invariant.replayed in
    let (here, answered, gives) = c.replay_line.ensures.answered store.names store.labels meant numbered in
    record {
      policy = answered_keeps_policy _ _ says here answered ∙ c.loop-line.invariant.policy;
      replayed = (
        text ++ here,
        replays_next c.args.core.now (lines_in store) i says _ _ text here within there so_far answered,
        gives (seen c.args.out.now) text given,
      );
      count =
          c.replay_line.ensures.count ∙ ap (λ n. n + (if binds line.command then 1 else 0)) c.loop-line.invariant.count
          ∙ (ap (λ b. label_count (take i (lines_in store)) + (if b then 1 else 0)) (sym (binds_said store.names store.labels line.command))
          ∙ sym (label_count_more (lines_in store) i says within there));
      going = sym c.has_stopped.ensures ∙ c.if-has_stopped.false;
      room = c.replay_line.ensures.room ∙ c.loop-line.invariant.room;
    }
