use Rattle.std.proofs.Common.{rules, arith, ◌≡◌, ap, ◌∙◌, sym, ◌+◌}
use Rattle.std.proofs.Common.{vec_capacity, length, slice_range}
use Rattle.hg_reserved.proofs.ShownLemmas.{length-shown, range-copied}
use Rattle.hg_reserved.proofs.reserved.Reserved.copy_out.Goals as goal

pub overflow_add-end : goal.overflow_add-end
overflow_add-end g c =
    let t = c.self.inside.touched in
    let all : length c.args.self.now ≡ vec_capacity t =
    ap length (sym c.self.view_is)
    ∙ length-shown g.T.Blank.blank t.items (vec_capacity t) (search rules) in
    omega (arith, all, c.requires, t.small)

pub returns-after-loop-at : goal.returns-after-loop-at
returns-after-loop-at g c =
    let done = c.loop-at.invariant in
    range-copied g.T.Blank.blank c.args.self.now c.loop-at.into c.args.from
    (omega (arith, c.requires, done.all)) (λ k l. done.copied k (search rules))
    ∙ ap (λ n. slice_range c.args.self.now c.args.from (c.args.from + n)) done.all
