use Rattle.std.proofs.Common.{rules, sym, ap, ◌∙◌}
use Rattle.std.specs.List.{list_all}
use Rattle.hg_trace.specs.Lines.{is_plain}
use Rattle.hg_trace.proofs.PlainText.{lines_of-all}
use Rattle.hg_trace.proofs.read.read_trace.Goals as goal

pub loop-line-init : goal.loop-line-init
loop-line-init c = record {
  numbered = search rules;
  plain = λ yes. ap (list_all (list_all is_plain)) c.new-lines.ensures.lines ∙ lines_of-all is_plain c.args.bytes.now (sym c.are_plain-plain.ensures ∙ yes);
  read = search rules;
}
