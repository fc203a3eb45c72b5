use Rattle.std.proofs.Common.{ap, ◌∙◌}
use Rattle.std.specs.List.{list_all}
use Rattle.hg_trace.specs.Lines.{is_allowed, before_comment}
use Rattle.hg_trace.proofs.PlainText.{text_allowed}
use Rattle.hg_trace.proofs.lines.Cut.text.Goals as goal

pub returns-then-plain : goal.returns-then-plain
returns-then-plain c =
    let text = c.self.invariant ∙ ap before_comment c.self.view_is in
    (ap (list_all is_allowed) text ∙ text_allowed c.args.self (c.requires c.if-plain.true), text)
