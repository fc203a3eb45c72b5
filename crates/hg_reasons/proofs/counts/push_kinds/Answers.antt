use Rattle.hg_reasons.specs.Counts.{kind_row}
use Rattle.hg_text.proofs.Texts.{items_more}
use Rattle.hg_reasons.proofs.counts.push_kinds.Goals as goal

pub loop-kind-preserved : goal.loop-kind-preserved
loop-kind-preserved c =
    items_more (kind_row c.args.form c.args.lines.now) c.args.kinds.now c.loop-kind.kind-index _
    c.args.out.now.items c.loop-kind.out.items c.push_kind.new.out.items c.loop-kind-test.true c.loop-kind.invariant c.in_ok-push_kind.ensures
