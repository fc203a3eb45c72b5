use Rattle.std.proofs.Common.{true, refl, rules}
use Rattle.hg_replay.specs.declared.replaying.output.Output.{Output}
use Rattle.hg_replay.specs.Writes.{Wrote, StopsIn}
use Rattle.hg_replay.proofs.Writes.{emits_after_stop, emits_written, emits_stopped}
use Rattle.hg_replay.proofs.replaying.output.Output.write_through.Goals as goal
use Rattle.hg_replay.proofs.replaying.output.Output.write_through.Goals.{else-not-self-via-then-not-self+else-is_err, else-not-self-via-else-not-self}

pub returns-then-is_err : goal.returns-then-is_err
returns-then-is_err g c =
    let seen = g.W.Sink.seen in
    let from = c.args.self.now in
    let to : Output = record { waiting = from.waiting; stopped = true } in
    let front : StopsIn (seen c.args.out.now) (seen c.put.new.out) c.args.bytes.now = search rules in
    emits_stopped _ _ from to c.args.bytes.now c.requires c.if-not-self.true refl front

pub returns-else-not-self : goal.returns-else-not-self
returns-else-not-self g c =
    let seen = g.W.Sink.seen in
    let from = c.args.self.now in
    elim c.else-not-self.branch [
      | else-not-self-via-then-not-self+else-is_err w ↦
          let written : Wrote (seen c.args.out.now) (seen w.put.new.out) c.args.bytes.now = search rules in
          rw w.out-is (emits_written _ _ from c.args.bytes.now c.requires w.if-not-self.true written)
      | else-not-self-via-else-not-self w ↦ rw w.out-is (emits_after_stop _ from c.args.bytes.now w.if-not-self.false)
    ]
