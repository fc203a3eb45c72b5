use Rattle.std.proofs.Common.{◌^◌, ◌≤◌, ◌-◌, ◌*◌, ◌+◌, get_or, drop, sym, ◌∙◌, arith}
use Rattle.hg_trace.proofs.Numerals.{number_on-digit, number_on-great}
use Rattle.hg_trace.proofs.numbers.number_on.Goals as goal

pub returns-in_err-checked_mul : goal.returns-in_err-checked_mul
returns-in_err-checked_mul c =
    let digits = c.args.digits.now in
    let n = c.loop-b.number in
    let i = c.loop-b.b-index in
    let next = 10 * n + (get_or digits i 0 - 48) in
    let great : 2 ^ 64 ≤ next = omega (arith, c.in_err-checked_mul.ensures) in
    c.from_residual-in_err-checked_mul.ensures ∙ sym (number_on-great next (drop (i + 1) digits) great)
    ∙ sym (number_on-digit n i digits c.loop-b-test.true c.in_ok-digit.ensures.0) ∙ c.loop-b.invariant.goes_on

pub returns-in_err-number : goal.returns-in_err-number
returns-in_err-number c =
    let digits = c.args.digits.now in
    let n = c.loop-b.number in
    let i = c.loop-b.b-index in
    let next = 10 * n + (get_or digits i 0 - 48) in
    let great : 2 ^ 64 ≤ next = omega (arith, c.in_err-number.ensures, c.in_ok-digit.ensures.1) in
    c.from_residual-in_err-number.ensures ∙ sym (number_on-great next (drop (i + 1) digits) great)
    ∙ sym (number_on-digit n i digits c.loop-b-test.true c.in_ok-digit.ensures.0) ∙ c.loop-b.invariant.goes_on
