use Rattle.std.proofs.Common.{rules, arith, ap, sym, subst}
use Rattle.hg_run_table.specs.Seated.{HaveRoles}
use Rattle.hg_run_table.proofs.Reshaped.{splits}
use Rattle.hg_run_table.proofs.RolesOfViews.{cut_have}
use Rattle.hg_run_table.proofs.table.RunTable.split.Goals as goal

pub split_seat-seat-requires : goal.split_seat-seat-requires
split_seat-seat-requires g c =
    let wide = c.args.self.now.wide in
    (search rules, omega arith, splits _ _ _ _ _ c.requires.lives)

pub returns-clause-lives : goal.returns-clause-lives
returns-clause-lives g c = ap (λ m. m.0.lives) c.split_seat-seat.ensures.2

pub returns-clause-lives_given : goal.returns-clause-lives_given
returns-clause-lives_given g c = ap (λ m. m.0.lives) c.split_seat-seat.ensures.4

pub returns-clause-run : goal.returns-clause-run
returns-clause-run g c = ap (λ m. m.0.run) c.split_seat-seat.ensures.2

pub returns-clause-run_given : goal.returns-clause-run_given
returns-clause-run_given g c = ap (λ m. m.0.run) c.split_seat-seat.ensures.4

pub returns-clause-roles : goal.returns-clause-roles
returns-clause-roles g c roles theirs is has =
    let cut = cut_have _ _ _ _ is has in
    let one = ap (λ m. m.0.run) c.split_seat-seat.ensures.2 in
    let other = ap (λ m. m.0.run) c.split_seat-seat.ensures.4 in
    (subst (λ view. HaveRoles view roles) (sym one) cut.0, subst (λ view. HaveRoles view theirs) (sym other) cut.1)
