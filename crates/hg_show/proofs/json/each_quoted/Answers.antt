use Rattle.std.proofs.Common.{List, [], ℕ, Vec, Global}
use Rattle.hg_show.specs.Json.{quoted}
use Rattle.hg_show.specs.Texts.{texts_in}
use Rattle.hg_show.proofs.TextLemmas.{viewed_each_more}
use Rattle.hg_show.proofs.json.each_quoted.Goals as goal

pub loop-text-preserved : goal.loop-text-preserved
loop-text-preserved c =
    let items : Vec ℕ Global → List ℕ = λ text. text.items in
    viewed_each_more items quoted c.args.texts.now c.loop-text.text-index c.text-item.result [] (texts_in c.loop-text.values.items) (texts_in c.add_quoted.new.values.items)
    c.loop-text-test.true c.text-item.is c.loop-text.invariant (rw c.as_slice.ensures.value at c.in_ok-add_quoted.ensures)
