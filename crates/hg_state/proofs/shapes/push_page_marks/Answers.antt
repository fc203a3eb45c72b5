use Rattle.std.proofs.Common.{◌≡◌, arith}
use Rattle.hg_state.specs.Shapes.{page_mark}
use Rattle.hg_text.proofs.Texts.{numbers_more, numbers_all}
use Rattle.hg_state.proofs.shapes.push_page_marks.Goals as goal

pub loop-page-preserved : goal.loop-page-preserved
loop-page-preserved c =
    numbers_more (page_mark c.args.core.now.state c.args.segment) c.loop-page.page c.args.out.now.items c.loop-page.out.items c.push_page_mark.new.out.items c.loop-page.invariant c.in_ok-push_page_mark.ensures

pub returns : goal.returns
returns c =
    let ends : c.loop-page.page ≡ 16 = omega (arith, c.loop-page-test.false, c.loop-page.auto.page-end) in
    numbers_all (page_mark c.args.core.now.state c.args.segment) c.loop-page.page 16 c.args.out.now.items c.loop-page.out.items ends c.loop-page.invariant
