use Rattle.std.proofs.Common.{◌++◌, get_or, append_assoc, sym, ap, ◌∙◌}
use Rattle.std.proofs.lemmas.Grind.{get_or_default_zero}
use Rattle.hg_state.specs.Workers.{next_number}
use Rattle.hg_state.proofs.Texts.{words_more}
use Rattle.hg_state.proofs.workers.push_next_numbers.Goals as goal

pub loop-number-preserved : goal.loop-number-preserved
loop-number-preserved c =
    let ns = c.args.numbers.now in
    let i = c.loop-number.number-index in
    let n = get_or ns i 0 in
    words_more (next_number c.args.form) ns i n c.args.out.now.items c.loop-number.out.items c.push_counted.new.out.items
    c.loop-number-test.true (sym (get_or_default_zero ns i n c.loop-number-test.true)) c.loop-number.invariant
    (c.in_ok-push_counted.ensures ∙ append_assoc c.loop-number.out.items _ _ ∙ ap (λ m. c.loop-number.out.items ++ next_number c.args.form m) c.from.ensures)
