use Rattle.std.proofs.Common.{Some, Err, refl, sym, ap, arith}
use Rattle.std.proofs.lemmas.Bool.{true≢false}
use Rattle.std.proofs.lemmas.Fmt.{parse-decimal}
use Rattle.hg_place.specs.Texts.{BeginsPlainly}
use Rattle.hg_place.proofs.NumberTexts.{BeginsPlainly-decimal, number_read, number_only}
use Rattle.hg_place.proofs.text.number_in.Goals as goal

pub returns-then-not-begins_plainly-clause-each : goal.returns-then-not-begins_plainly-clause-each
returns-then-not-begins_plainly-clause-each c n is =
    let plain : BeginsPlainly c.args.text.now = rw is.0 (BeginsPlainly-decimal n (omega arith)) in
    absurd (true≢false (sym (c.if-not-begins_plainly.ensures.1 plain)))

pub returns-in-Ok-clause-is : goal.returns-in-Ok-clause-is
returns-in-Ok-clause-is c = (number_read c.args.text.now c.in-Ok.number c.in-Ok.ensures.value.0 (c.if-not-begins_plainly.ensures.0 refl), c.if-number-limit.true)

pub returns-in-Ok-clause-each : goal.returns-in-Ok-clause-each
returns-in-Ok-clause-each c n is = ap (λ k. Some k) (number_only c.args.text.now c.in-Ok.number n c.in-Ok.ensures.value.0 (omega arith) is.0)

pub returns-in_default-clause-each : goal.returns-in_default-clause-each
returns-in_default-clause-each c n is =
    let same = number_only c.args.text.now c.in-Ok.number n c.in-Ok.ensures.value.0 (omega arith) is.0 in
    absurd (omega arith)

pub returns-in_default-2-clause-each : goal.returns-in_default-2-clause-each
returns-in_default-2-clause-each c n is =
    let same = parse-decimal 64 n c.args.text.now (Err c.in_default.field-0) (omega arith) (omega arith) is.0 c.in_default.ensures.value.0 in
    absurd (cc)
