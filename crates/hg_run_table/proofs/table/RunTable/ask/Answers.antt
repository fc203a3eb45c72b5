use Rattle.std.proofs.Common.{rules, arith, sym, subst}
use Rattle.hg_run_table.specs.Seated.{HaveRoles}
use Rattle.hg_run_table.specs.Asked.{IsWorkerAsked}
use Rattle.hg_run_table.proofs.AllowedAnswers.{asks_anew}
use Rattle.hg_run_table.proofs.Answering.{all_asked}
use Rattle.hg_run_table.proofs.RolesOfViews.{asked_have}
use Rattle.hg_run_table.proofs.table.RunTable.ask.Goals as goal

pub load-requires : goal.load-requires
load-requires g c =
    let wide = c.args.self.now.wide in
    (search rules, omega arith, asks_anew _ _ _ _ g.E.Asks.asked)

pub returns-clause-asked : goal.returns-clause-asked
returns-clause-asked g c worker =
    subst (IsWorkerAsked worker g.E.Asks.asked) (sym c.load.ensures.2.2)
    (all_asked g.E.Asks.asked c.args.seat.now.seat.me.0.run worker)

pub returns-clause-roles : goal.returns-clause-roles
returns-clause-roles g c roles has =
    subst (λ view. HaveRoles view roles) (sym c.load.ensures.2.2)
    (asked_have g.E.Asks.asked _ _ has)
