use Rattle.std.proofs.Common.{[]}
use Rattle.hg_replay.specs.Writes.{Emits}
use Rattle.hg_replay.proofs.Writes.{emits_then}
use Rattle.hg_replay.proofs.replaying.output.Output.put.Goals as goal

pub returns-then-keep : goal.returns-then-keep
returns-then-keep g c = c.keep.ensures.kept c.if-keep.true (g.W.Sink.seen c.args.out.now)

pub returns-else-not-keep : goal.returns-else-not-keep
returns-else-not-keep g c =
    let seen = g.W.Sink.seen in
    let from = c.args.self.now in
    let flushed = c.flush.new.self in
    let given : Emits (seen c.args.out.now) from (seen c.flush.new.out) flushed [] =
    rw (c.keep.ensures.unchanged c.if-keep.false) at c.flush.ensures.given in
    emits_then _ (seen c.flush.new.out) _ from flushed c.keep-2.new.self [] c.args.bytes.now given
    (c.keep-2.ensures.kept c.if-not-keep.false (seen c.flush.new.out))
