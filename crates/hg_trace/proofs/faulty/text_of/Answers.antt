use Rattle.std.proofs.Common.{◌≡◌, ◌+◌, Some, length, sym, ap, ◌∙◌, arith}
use Rattle.std.specs.Option.{option_map}
use Rattle.hg_trace.specs.Lines.{lines_of, before_comment}
use Rattle.hg_trace.proofs.LineNumbers.{drop-next, line_of-next, line_of-past}
use Rattle.hg_trace.proofs.faulty.text_of.Goals as goal

pub returns-then-at-number : goal.returns-then-at-number
returns-then-at-number c =
    let here = line_of-next c.args.bytes.now c.loop-line.at c.in-Some.line c.next_cut.new.self (sym c.loop-line.invariant.rest ∙ c.in-Some.ensures) in
    ap Some c.before_comment.ensures ∙ sym (ap (option_map before_comment) (rw c.if-at-number.true at here))

pub loop-line-preserved : goal.loop-line-preserved
loop-line-preserved c =
    let left : length c.loop-line.lines ≡ length c.next_cut.new.self + 1 = ap length c.in-Some.ensures ∙ omega arith in
    record {
      counted = omega (arith, c.loop-line.invariant.counted, left);
      rest = sym (drop-next (lines_of c.args.bytes.now) c.loop-line.at c.in-Some.line c.next_cut.new.self (sym c.loop-line.invariant.rest ∙ c.in-Some.ensures));
      early = λ some. omega (arith, c.loop-line.invariant.early some);
    }

pub returns : goal.returns
returns c =
    let left : length c.loop-line.lines ≡ 0 = ap length c.in_default.ensures.0 in
    sym (ap (option_map before_comment) (line_of-past c.args.bytes.now c.args.number (λ some. omega (arith, c.loop-line.invariant.counted, left, c.loop-line.invariant.early some))))
