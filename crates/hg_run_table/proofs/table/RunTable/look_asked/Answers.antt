use Rattle.std.proofs.Common.{rules, arith, refl}
use Rattle.hg_run_table.proofs.AllowedAnswers.{looks_answering}
use Rattle.hg_run_table.proofs.table.RunTable.look_asked.Goals as goal

pub load-requires : goal.load-requires
load-requires c =
    let wide = c.args.self.now.wide in
    let at = c.number.ensures.number in (
      search rules,
      omega (arith, c.requires.place),
      rw at (looks_answering _ _ _ _ _ c.requires.place 0 0 c.requires.answers),
    )

pub returns-clause-shown : goal.returns-clause-shown
returns-clause-shown c = rw (← c.number.ensures.number) c.load.ensures.2.0.0

pub returns-clause-lives : goal.returns-clause-lives
returns-clause-lives c = rw (← c.number.ensures.number) c.load.ensures.2.0.1

pub returns-clause-left : goal.returns-clause-left
returns-clause-left c = rw (← c.number.ensures.number) (c.load.ensures.2.1 _ refl)

pub returns-clause-found : goal.returns-clause-found
returns-clause-found c = rw (← c.number.ensures.number) (c.load.ensures.2.2 _ refl)
