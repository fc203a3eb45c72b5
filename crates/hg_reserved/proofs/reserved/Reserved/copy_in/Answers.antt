use Rattle.std.proofs.Common.{rules, arith, ◌≡◌, ◌≤◌, ◌+◌, ◌-◌, ap, ◌∙◌, sym, vec_capacity, length}
use Rattle.std.proofs.Common.{slice_index_or, List}
use Rattle.hg_reserved.specs.Overlaid.{overlaid}
use Rattle.hg_reserved.proofs.ShownLemmas.{length-shown, extended, length-extended}
use Rattle.hg_reserved.proofs.OverlaidLemmas.{shown-replaced, shown-appended}
use Rattle.hg_reserved.proofs.reserved.Reserved.copy_in.Goals as goal

pub overflow_add-end : goal.overflow_add-end
overflow_add-end g c =
    let t = c.self.inside.touched in
    let all : length c.args.self.now ≡ vec_capacity t =
    ap length (sym c.self.view_is)
    ∙ length-shown g.T.Blank.blank t.items (vec_capacity t) (search rules) in
    omega (arith, all, c.requires, t.small)

pub returns-then-end-touched : goal.returns-then-end-touched
returns-then-end-touched g c =
    let t = c.self.inside.touched in
    rw c.replace.ensures.room
    (shown-replaced g.T.Blank.blank t.items c.replace.new.values.items (vec_capacity t)
    c.args.from c.args.values.now (search rules) (search rules)
    c.replace.ensures.written c.replace.ensures.others
    ∙ ap (λ l. overlaid l c.args.from c.args.values.now) c.self.view_is)

pub returns-then-from-end : goal.returns-then-from-end
returns-then-from-end g c =
    let t = c.self.inside.touched in
    let blank = g.T.Blank.blank in
    let from = c.args.from in
    let done = c.replace-then-from-end in
    let last = from + length c.args.values.now - 1 in
    let behind : length t.items ≤ last = omega arith in
    let more : c.extend.new.values.items ≡ extended blank t.items last blank =
    rw c.blank.ensures at c.extend.ensures.items in
    let all : length c.args.self.now ≡ vec_capacity t =
    ap length (sym c.self.view_is) ∙ length-shown blank t.items (vec_capacity t) (search rules) in
    let same : length done.new.values.items ≡ length c.extend.new.values.items = search rules in
    rw (done.ensures.room, c.extend.ensures.room)
    (shown-appended blank t.items done.new.values.items (vec_capacity t) from last
    c.args.values.now
    (same ∙ ap length more ∙ length-extended blank t.items last blank behind)
    (omega arith) behind (omega arith) (omega (arith, all, c.requires)) done.ensures.written
    (λ at out. done.ensures.others at out ∙ ap (λ (l : List _). slice_index_or l at blank) more)
    ∙ ap (λ l. overlaid l from c.args.values.now) c.self.view_is)
