use Rattle.std.proofs.Common.{◌≡◌, ◌+◌, ◌++◌, ap, ◌∙◌, arith}
use Rattle.hg_state.specs.Cells.{cell_at}
use Rattle.hg_state.specs.Pictures.{place_shape}
use Rattle.hg_state.specs.Shapes.{cell_shape}
use Rattle.hg_text.proofs.Texts.{numbers_more, numbers_all}
use Rattle.hg_state.proofs.picture.push_places.Goals as goal

pub loop-index-preserved : goal.loop-index-preserved
loop-index-preserved c =
    let s = c.args.core.now.state in
    let here = c.cell_at.ensures ∙ ap (cell_at s) (c.place_at-place.ensures.number ∙ ap (λ k. c.args.first + k) c.from.ensures) in
    numbers_more (place_shape c.args.drawing s c.args.first) c.loop-index.index c.args.out.now.items c.loop-index.out.items c.push_cell.new.out.items c.loop-index.invariant
    (c.in_ok-push_cell.ensures ∙ ap (λ k. c.loop-index.out.items ++ cell_shape c.args.drawing c.loop-index.index k) here)

pub returns : goal.returns
returns c =
    let ends : c.loop-index.index ≡ c.args.places = omega (arith, c.loop-index-test.false, c.loop-index.auto.index-end) in
    numbers_all (place_shape c.args.drawing c.args.core.now.state c.args.first) c.loop-index.index c.args.places c.args.out.now.items c.loop-index.out.items ends c.loop-index.invariant
