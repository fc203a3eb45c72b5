use Rattle.std.proofs.Common.{◌≡◌, [], ◌∷◌, ◌++◌, ◌-◌, length, sym, ◌∙◌, subst}
use Rattle.std.specs.Prelude.{replicate, codes, decimal}
use Rattle.hg_trace.specs.Printed.{handle_text}
use Rattle.hg_replay.specs.Text.{at_left, at_right}
use Rattle.hg_replay.specs.Writes.{Emits}
use Rattle.hg_replay.proofs.RowLines.{row_line}
use Rattle.hg_replay.proofs.Writes.{emits_then}
use Rattle.hg_replay.proofs.replaying.output.Output.put_row.Goals as goal

pub returns : goal.returns
returns g c =
    let seen = g.W.Sink.seen in
    let row = c.args.row in
    let front = at_left 21 (handle_text row.handle) ++ codes " " in
    let name = c.name_of-name.result.now in
    let back = replicate (16 - length name) 32 ++ codes " " ++ at_right 5 (decimal row.bytes) ++ 10 ∷ [] in
    let begins : c.as_bytes.result.now ≡ front = c.as_bytes.ensures.value ∙ c.as_str.ensures.value ∙ c.row_front.ensures in
    let named : c.as_bytes-2.result.now ≡ name = c.as_bytes-2.ensures.value in
    let ends : c.as_bytes-3.result.now ≡ back = c.as_bytes-3.ensures.value ∙ c.as_str-2.ensures.value ∙ c.row_back.ensures in
    let first = c.put.new in
    let second = c.put-2.new in
    let third = c.put-3.new in
    subst (λ t. Emits (seen c.args.out.now) c.args.self.now (seen third.out) third.self t)
    (sym (row_line c.args.policy.now row name c.name_of-name.ensures))
    (emits_then _ (seen first.out) _ c.args.self.now first.self third.self front (name ++ back)
    (subst (λ t. Emits (seen c.args.out.now) c.args.self.now (seen first.out) first.self t) begins c.put.ensures)
    (emits_then _ (seen second.out) _ first.self second.self third.self name back
    (subst (λ t. Emits (seen first.out) first.self (seen second.out) second.self t) named c.put-2.ensures)
    (subst (λ t. Emits (seen second.out) second.self (seen third.out) third.self t) ends c.put-3.ensures)))
