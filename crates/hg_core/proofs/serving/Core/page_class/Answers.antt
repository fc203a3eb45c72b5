use Rattle.std.proofs.Common.{ap, ◌∙◌}
use Rattle.hg_core.specs.PageClasses.{page_class}
use Rattle.hg_core.proofs.serving.Core.page_class.Goals as goal

pub returns : goal.returns
returns c =
    c.page_class.ensures
    ∙ ap (λ k. page_class k.state c.args.segment c.args.page) c.self.view_is
