use Rattle.std.proofs.Common.{List, ℕ, Vec, Global}
use Rattle.hg_show.specs.Warnings.{warning_line}
use Rattle.hg_show.proofs.TextLemmas.{viewed_more}
use Rattle.hg_show.proofs.warnings.push_warnings.Goals as goal

pub loop-text-preserved : goal.loop-text-preserved
loop-text-preserved c =
    let items : Vec ℕ Global → List ℕ = λ text. text.items in
    viewed_more items warning_line c.args.texts.now c.loop-text.text-index c.text-item.result c.args.out.now.items c.loop-text.out.items c.push_warning_line.new.out.items
    c.loop-text-test.true c.text-item.is c.loop-text.invariant (rw c.as_slice.ensures.value at c.in_ok-push_warning_line.ensures)
