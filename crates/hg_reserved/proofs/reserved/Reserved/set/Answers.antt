use Rattle.std.proofs.Common.{rules, ap, ◌∙◌, vec_capacity, slice_set}
use Rattle.hg_reserved.proofs.ShownLemmas.{shown-set, shown-extended, length-shown}
use Rattle.hg_reserved.proofs.reserved.Reserved.set.Goals as goal

pub returns-then-at-len : goal.returns-then-at-len
returns-then-at-len g c =
    let t = c.self.inside.touched in
    shown-set g.T.Blank.blank t.items (vec_capacity t) c.args.at c.args.value (search rules)
    ∙ ap (λ l. slice_set l c.args.at c.args.value) c.self.view_is

pub returns-else-at-len : goal.returns-else-at-len
returns-else-at-len g c =
    let t = c.self.inside.touched in
    rw (c.extend.ensures.items, c.extend.ensures.room)
    (shown-extended g.T.Blank.blank t.items (vec_capacity t) c.args.at c.args.value
    (search rules) (search (rules, length-shown))
    ∙ ap (λ l. slice_set l c.args.at c.args.value) c.self.view_is)
