use Rattle.std.proofs.Common.{rules, arith}
use Rattle.hg_run_table.proofs.Allowed.{decides}
use Rattle.hg_run_table.proofs.table.RunTable.decide.Goals as goal

pub load-requires : goal.load-requires
load-requires g c =
    let wide = c.args.self.now.wide in (
      search rules,
      omega arith,
      decides _ _ _ _ _ g.D.Decision.made g.D.Decision.change c.requires.roles c.requires.decides,
    )
