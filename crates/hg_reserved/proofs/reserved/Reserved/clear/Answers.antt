use Rattle.std.proofs.Common.{rules, arith, ◌≡◌, ap, ◌∙◌, sym, vec_capacity, length}
use Rattle.hg_reserved.proofs.ShownLemmas.{length-shown}
use Rattle.hg_reserved.proofs.reserved.Reserved.clear.Goals as goal

pub overflow_add-from : goal.overflow_add-from
overflow_add-from g c =
    let t = c.self.inside.touched in
    let all : length c.args.self.now ≡ vec_capacity t =
    ap length (sym c.self.view_is)
    ∙ length-shown g.T.Blank.blank t.items (vec_capacity t) (search rules) in
    omega (arith, all, c.requires, t.small)
