use Rattle.std.proofs.Common.{◌++◌, [], ◌∷◌, ap, ◌∙◌, sym, append-nil}
use Rattle.hg_run_table.proofs.table.RunTable.part_seat.Goals as goal

pub returns-clause-none : goal.returns-clause-none
returns-clause-none g c = (c.split-seat.ensures.roles [] [] (sym c.requires.no_part) c.requires.none).0

pub returns-clause-given : goal.returns-clause-given
returns-clause-given g c =
    c.join.ensures.lives ∙ ap (λ l. c.split-seat.result.seat.me.0.lives ++ l) c.next_part-part.ensures.bare_one ∙ append-nil _
    ∙ c.split-seat.ensures.lives_given

pub returns-clause-roles : goal.returns-clause-roles
returns-clause-roles g c role rest has =
    let p = c.next_part-part.ensures.roles role rest has in
    let s = c.split-seat.ensures.roles [] [] (sym c.requires.no_part) c.requires.none in
    (c.join.ensures.roles [] (role ∷ []) s.1 p.0, p.1)
