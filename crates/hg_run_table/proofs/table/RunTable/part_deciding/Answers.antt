use Rattle.std.proofs.Common.{rules, arith, refl}
use Rattle.hg_table.specs.Steps.{part_from}
use Rattle.hg_run_table.proofs.Allowed.{exchange_is, exchanges}
use Rattle.hg_run_table.proofs.table.RunTable.part_deciding.Goals as goal

pub compare_exchange-requires : goal.compare_exchange-requires
compare_exchange-requires g c =
    let wide = c.args.self.now.wide in
    let at = c.number-at.ensures.number in (
      search rules,
      omega (arith, c.requires.place),
      rw at
          (exchanges _ _ _ _ _ (omega (arith, c.requires.place)) _ g.D.Decision.made g.D.Decision.change c.requires.roles part_from exchange_is g.P.StepsBy.by _ c.requires.may c.requires.decides),
    )

pub returns-clause-found : goal.returns-clause-found
returns-clause-found g c = rw (← c.number-at.ensures.number) (c.compare_exchange.ensures.2.2 _ refl)
