use Rattle.std.proofs.Common.{ap, sym, ◌∙◌}
use Rattle.std.specs.List.{concat}
use Rattle.hg_trace.proofs.LineCuts.{concat-lines_of}
use Rattle.hg_trace.proofs.lines.Lines.rest.Goals as goal

pub returns : goal.returns
returns c = sym (concat-lines_of c.self.inside.rest.now) ∙ ap concat c.self.view_is
