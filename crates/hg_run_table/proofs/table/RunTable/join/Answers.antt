use Rattle.std.proofs.Common.{rules, arith, ap, sym, subst, ◌++◌}
use Rattle.hg_run_table.specs.Seated.{HaveRoles}
use Rattle.hg_run_table.proofs.Reshaped.{joins}
use Rattle.hg_run_table.proofs.RolesOfViews.{joined_have}
use Rattle.hg_run_table.proofs.table.RunTable.join.Goals as goal

pub join_seat-requires : goal.join_seat-requires
join_seat-requires c =
    let wide = c.args.self.now.wide in
    (search rules, search rules, search rules, omega arith, joins _ _ _ _ _)

pub returns-clause-lives : goal.returns-clause-lives
returns-clause-lives c = ap (λ m. m.0.lives) c.join_seat.ensures.2

pub returns-clause-run : goal.returns-clause-run
returns-clause-run c = ap (λ m. m.0.run) c.join_seat.ensures.2

pub returns-clause-roles : goal.returns-clause-roles
returns-clause-roles c roles theirs has have =
    subst (λ view. HaveRoles view (roles ++ theirs)) (sym (ap (λ m. m.0.run) c.join_seat.ensures.2))
    (joined_have _ _ has _ _ have)
