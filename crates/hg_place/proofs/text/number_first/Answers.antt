use Rattle.std.proofs.Common.{None, Some, decimal, arith}
use Rattle.std.proofs.lemmas.Str.Pattern.{split_after}
use Rattle.hg_place.proofs.NumberTexts.{no_dot}
use Rattle.hg_place.proofs.text.number_first.Goals as goal

pub returns-in_err-number-clause-each : goal.returns-in_err-number-clause-each
returns-in_err-number-clause-each c n rest is =
    absurd (split_after 46 c.args.text.now (decimal n) rest None c.in_err-number.ensures.cases (omega arith) is.0 (no_dot n (omega arith)))

pub returns-in_err-number_in-clause-each : goal.returns-in_err-number_in-clause-each
returns-in_err-number_in-clause-each c n rest is =
    let cut =
    split_after 46 c.args.text.now (decimal n) rest (Some (c.in_ok-number.number, c.in_ok-number.rest)) c.in_ok-number.ensures.cases (omega arith) is.0
    (no_dot n (omega arith)) in
    let no = c.in_err-number_in.ensures.each n (cut.0, is.1) in
    absurd (cc)

pub returns-clause-each : goal.returns-clause-each
returns-clause-each c n rest is =
    let cut =
    split_after 46 c.args.text.now (decimal n) rest (Some (c.in_ok-number.number, c.in_ok-number.rest)) c.in_ok-number.ensures.cases (omega arith) is.0
    (no_dot n (omega arith)) in
    let found = c.in_ok-number_in.ensures.each n (cut.0, is.1) in
    (cc, cut.1)
