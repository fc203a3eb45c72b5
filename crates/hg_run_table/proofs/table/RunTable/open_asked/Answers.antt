use Rattle.std.proofs.Common.{rules, arith, refl}
use Rattle.hg_run_table.proofs.AllowedAnswers.{opens_answering}
use Rattle.hg_run_table.proofs.table.RunTable.open_asked.Goals as goal

pub store-requires : goal.store-requires
store-requires g c =
    let wide = c.args.self.now.wide in
    let at = c.number.ensures.number in (
      search rules,
      omega (arith, c.requires.place),
      rw at
          (opens_answering _ _ _ _ _ c.requires.place g.P.StepsBy.by _ c.requires.may c.requires.answers),
    )

pub returns-clause-lives : goal.returns-clause-lives
returns-clause-lives g c = rw (← c.number.ensures.number) c.store.ensures.2.1

pub returns-clause-left : goal.returns-clause-left
returns-clause-left g c =
    let e = c.store.ensures.2.0 in (
      e.0,
      rw (← c.number.ensures.number) e.1,
      rw (← c.number.ensures.number) (e.2 _ refl),
      rw (← c.number.ensures.number) (e.3 _ refl),
    )
