use Rattle.std.proofs.Common.{◌+◌, ap, ◌∙◌, arith}
use Rattle.hg_replay.proofs.Meanings.{meanings_more}
use Rattle.hg_replay.proofs.replaying.known.look_up.Goals as goal

pub loop-name-preserved : goal.loop-name-preserved
loop-name-preserved c = record {
  meant =
      c.push_reserved.ensures.items
      ∙ meanings_more c.args.policy.now c.args.names.now c.loop-name.name-index _ _ _ c.loop-name-test.true c.loop-name.invariant.meant
      c.meant_of.ensures;
  count = c.push_reserved.ensures.len ∙ ap (λ n. n + 1) c.loop-name.invariant.count;
  room = omega (arith, c.push_reserved.ensures.capacity, c.loop-name.invariant.room);
}
