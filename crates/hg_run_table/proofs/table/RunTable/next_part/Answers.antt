use Rattle.std.proofs.Common.{[], ◌∷◌, refl, sym, ap, subst}
use Rattle.hg_run_table.specs.Seated.{HaveRoles}
use Rattle.hg_run_table.proofs.table.RunTable.next_part.Goals as goal

pub returns-clause-roles : goal.returns-clause-roles
returns-clause-roles c role rest has =
    let p = c.split-rest.ensures.roles (role ∷ []) rest refl has in (
      subst (λ view. HaveRoles view (role ∷ [])) (ap (λ seat. seat.seat.me.0.run) (sym c.replace.ensures.value)) p.0,
      subst (λ view. HaveRoles view rest) (ap (λ seat. seat.seat.me.0.run) (sym c.replace.ensures.after)) p.1,
    )
