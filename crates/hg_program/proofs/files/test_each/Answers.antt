use Rattle.std.proofs.Common.{refl, ◌∙◌, arith}
use Rattle.hg_program.proofs.Tested.{stand_more}
use Rattle.hg_program.proofs.files.test_each.Goals as goal

pub loop-name-preserved : goal.loop-name-preserved
loop-name-preserved g c =
    let added = c.add.ensures in
    record {
      stands =
          stand_more (g.H.Host.holds c.args.cx.now.host.now) c.args.policy.now c.args.names.now
          c.loop-name.name-index _ _ _ _ c.loop-name-test.true refl c.in_ok-bytes.ensures added.stands
          (λ unwarned before. added.quiet unwarned ∙ before) c.loop-name.invariant.stands;
      traces = omega (arith, added.traces, c.loop-name.invariant.traces);
      differ = omega (arith, added.differ, c.loop-name.invariant.differ);
    }
