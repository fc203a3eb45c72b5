use Rattle.std.proofs.Common.{rules, arith, ap, sym, subst}
use Rattle.hg_roles.specs.FirstParts.{first_roles}
use Rattle.hg_run_table.specs.Seated.{HaveRoles}
use Rattle.hg_run_table.proofs.Beginnings.{begins, first_have}
use Rattle.hg_run_table.proofs.table.RunTable.new.Goals as goal

pub of_words-requires : goal.of_words-requires
of_words-requires c = begins _ c.segments.ensures.sound _ (omega (arith, c.in_ok-words.ensures.all)) (search rules)

pub returns-clause-lives : goal.returns-clause-lives
returns-clause-lives c = ap (λ m. m.0.lives) c.in_ok-table.ensures.4

pub returns-clause-roles : goal.returns-clause-roles
returns-clause-roles c =
    let is = ap (λ m. m.0.run) c.in_ok-table.ensures.4 in
    subst (λ view. HaveRoles view (first_roles c.args.policy.now)) (sym is) (first_have _ c.segments.ensures.sound)
