use Rattle.hg_reasons.specs.AsJson.{escaped}
use Rattle.hg_text.proofs.Texts.{items_more}
use Rattle.hg_reasons.proofs.as_json.push_escaped_all.Goals as goal

pub loop-b-preserved : goal.loop-b-preserved
loop-b-preserved c =
    items_more escaped c.args.text.now c.loop-b.b-index _
    c.args.out.now.items c.loop-b.out.items c.push_escaped.new.out.items c.loop-b-test.true c.loop-b.invariant c.in_ok-push_escaped.ensures
