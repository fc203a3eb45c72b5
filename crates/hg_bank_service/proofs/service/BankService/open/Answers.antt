use Rattle.std.proofs.Common.{List, All, length, refl, sym, ap, subst, arith}
use Rattle.hg_close.specs.Closed.{IsQuiet}
use Rattle.hg_machine.specs.Lists.{Kept}
use Rattle.hg_bank_service.proofs.Closings.{all_none}
use Rattle.hg_bank_service.proofs.Made.{all_serve, opened_bank, opening_long, opening_new}
use Rattle.hg_bank_service.proofs.service.BankService.open.Goals as goal

pub bank_workers-requires-clause-some : goal.bank_workers-requires-clause-some
bank_workers-requires-clause-some c = λ number row there.
    let long = opening_long c.in_ok-running.ensures number row there in
    omega (arith, long, c.requires.some)

pub bank_workers-requires-clause-most : goal.bank_workers-requires-clause-most
bank_workers-requires-clause-most c = λ number row there.
    let long = opening_long c.in_ok-running.ensures number row there in
    omega (arith, long, c.requires.most)

pub bank_workers-requires-clause-new : goal.bank_workers-requires-clause-new
bank_workers-requires-clause-new c = opening_new c.in_ok-running.ensures

pub invariant_of-service : goal.invariant_of-service
invariant_of-service c =
    let opening = c.in_ok-running.ensures in
    let many = opening.many in
    let none = ap length c.in_ok-closed.ensures.items in
    record {
      sound = record {
        some = omega (arith, many, none, c.requires.some);
        most = omega (arith, many, none, c.requires.most);
        serve = all_serve opening.opened;
        quiet = subst (λ (xs : List Kept). All (IsQuiet c.args.policy) xs)
            (sym c.in_ok-closed.ensures.items) (all_none (IsQuiet c.args.policy));
      };
      room = omega (arith, many, none, c.in_ok-closed.ensures.exact, c.from.ensures);
    }

pub returns : goal.returns
returns c =
    opened_bank _ c.in_ok-running.rows.items c.in_ok-workers.workers.items c.in_ok-running.ensures
    c.in_ok-workers.ensures refl c.in_ok-closed.ensures.items
