use Rattle.std.proofs.Common.{get_or, sym}
use Rattle.std.proofs.lemmas.Grind.{get_or_default_zero}
use Rattle.hg_state.specs.Costs.{class_text}
use Rattle.hg_state.proofs.Texts.{words_more}
use Rattle.hg_state.proofs.costs.push_these.Goals as goal

pub loop-class-preserved : goal.loop-class-preserved
loop-class-preserved c =
    let ns = c.args.classes.now in
    let i = c.loop-class.class-index in
    let n = get_or ns i 0 in
    words_more (class_text c.args.form c.args.word c.args.blocks.now) ns i n c.args.out.now.items c.loop-class.out.items c.push_class_text.new.out.items
    c.loop-class-test.true (sym (get_or_default_zero ns i n c.loop-class-test.true)) c.loop-class.invariant c.in_ok-push_class_text.ensures
