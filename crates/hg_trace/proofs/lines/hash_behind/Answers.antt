use Rattle.std.proofs.Common.{◌-◌, sym, ap, ◌∙◌, arith}
use Rattle.hg_trace.specs.Lines.{is_hash}
use Rattle.hg_trace.proofs.TextEnds.{first_behind}
use Rattle.hg_trace.proofs.lines.hash_behind.Goals as goal

pub returns : goal.returns
returns c =
    let bytes = c.args.bytes.now in
    ap (λ n. n - c.args.cut) c.requires.hash ∙ sym (first_behind is_hash bytes c.args.cut (omega arith))
