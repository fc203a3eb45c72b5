use Rattle.std.proofs.Common.{rules, arith, refl}
use Rattle.hg_table.specs.Steps.{part_from}
use Rattle.hg_run_table.proofs.Allowed.{exchange_is}
use Rattle.hg_run_table.proofs.AllowedAnswers.{exchanges_answering}
use Rattle.hg_run_table.proofs.table.RunTable.part_asked.Goals as goal

pub compare_exchange-requires : goal.compare_exchange-requires
compare_exchange-requires g c =
    let wide = c.args.self.now.wide in
    let at = c.number-at.ensures.number in (
      search rules,
      omega (arith, c.requires.place),
      rw at
          (exchanges_answering _ _ _ _ _ c.requires.place part_from exchange_is g.P.StepsBy.by _ c.requires.may c.requires.answers),
    )

pub returns-clause-shown : goal.returns-clause-shown
returns-clause-shown g c = rw (← c.number-at.ensures.number) c.compare_exchange.ensures.2.0.0

pub returns-clause-lives : goal.returns-clause-lives
returns-clause-lives g c = rw (← c.number-at.ensures.number) c.compare_exchange.ensures.2.0.1

pub returns-clause-left : goal.returns-clause-left
returns-clause-left g c =
    rw (← c.number-at.ensures.number) (c.compare_exchange.ensures.2.1 _ refl)

pub returns-clause-found : goal.returns-clause-found
returns-clause-found g c = rw (← c.number-at.ensures.number) (c.compare_exchange.ensures.2.2 _ refl)
