use Rattle.std.proofs.Common.{rules, arith}
use Rattle.hg_run_table.proofs.Allowed.{opens}
use Rattle.hg_run_table.proofs.table.RunTable.open_deciding.Goals as goal

pub store-requires : goal.store-requires
store-requires g c =
    let wide = c.args.self.now.wide in
    let at = c.number.ensures.number in (
      search rules,
      omega (arith, c.requires.place),
      rw at
          (opens _ _ _ _ _ (omega (arith, c.requires.place)) _ g.D.Decision.made g.D.Decision.change c.requires.roles g.P.StepsBy.by _ c.requires.may c.requires.decides),
    )
