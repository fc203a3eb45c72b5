use Rattle.std.proofs.Common.{refl, ◌∙◌, arith}
use Rattle.std.proofs.lemmas.Result.{IfErr-weaker, IfOk-weaker, err_from_is_err_and}
use Rattle.hg_bank_service.proofs.Closings.{closed_bank_then, closed_then, none_closed, unclosed_then}
use Rattle.hg_bank_service.proofs.service.BankService.close.Goals as goal

pub loop-init : goal.loop-init
loop-init c = record {
  policy = refl;
  have = none_closed c.args.self;
  left = omega arith;
}

pub close_next-requires : goal.close_next-requires
close_next-requires c =
    omega (arith, c.loop.invariant.left, c.running-end.ensures, c.loop-test.true)

pub returns-in_err-service-clause-unclosed : goal.returns-in_err-service-clause-unclosed
returns-in_err-service-clause-unclosed c =
    let p = err_from_is_err_and c.from_residual.result c.from_residual.ensures.1 in
    rw (p.1, p.2) (unclosed_then c.args.self c.loop.service _ c.loop.invariant.policy
    c.loop.invariant.have c.in_err-service.ensures.unclosed)

pub loop-preserved : goal.loop-preserved
loop-preserved c =
    let before = c.loop.invariant in
    let one = c.in_ok-service.ensures.next in
    record {
      policy = one.policy ∙ before.policy;
      have = closed_then before.policy before.have one.closed;
      left = omega (arith, before.left, one.one);
    }

pub returns-clause-bank : goal.returns-clause-bank
returns-clause-bank c =
    IfOk-weaker c.into_bank.result _ _
    (λ bank. closed_bank_then c.args.self c.loop.service bank c.loop.invariant.policy
    c.loop.invariant.have) c.into_bank.ensures.bank

pub returns-clause-unclosed : goal.returns-clause-unclosed
returns-clause-unclosed c =
    IfErr-weaker c.into_bank.result _ _
    (λ why. unclosed_then c.args.self c.loop.service why c.loop.invariant.policy
    c.loop.invariant.have) c.into_bank.ensures.unclosed

pub into_bank-requires : goal.into_bank-requires
into_bank-requires c =
    omega (
      arith,
      c.loop.invariant.left,
      c.running-end.ensures,
      c.loop.auto.counter-end,
      c.loop-test.false,
    )
