use Rattle.std.proofs.Common.{rules, arith, refl}
use Rattle.hg_run_table.proofs.Allowed.{looks_deciding}
use Rattle.hg_run_table.proofs.table.RunTable.look_deciding.Goals as goal

pub load-requires : goal.load-requires
load-requires g c =
    let wide = c.args.self.now.wide in
    let at = c.number.ensures.number in (
      search rules,
      omega (arith, c.requires.place),
      rw at
          (looks_deciding _ _ _ _ _ (omega (arith, c.requires.place)) _ g.D.Decision.made g.D.Decision.change c.requires.roles 0 0 c.requires.decides),
    )

pub returns-clause-found : goal.returns-clause-found
returns-clause-found g c = rw (← c.number.ensures.number) (c.load.ensures.2.2 _ refl)
