use Rattle.std.proofs.Common.{ap, ◌∙◌}
use Rattle.hg_core.specs.BlockPlaces.{block_places}
use Rattle.hg_core.proofs.Kept.{kept_is}
use Rattle.hg_core.proofs.PlacesTold.{others_home}
use Rattle.hg_core.proofs.serving.Core.block_places.Goals as goal

pub returns-clause-home : goal.returns-clause-home
returns-clause-home c = λ worker own inside.
    others_home c.args.self.now.state c.args.segment c.args.page c.block_places.result worker
    (kept_is c.self.inside.stores c.args.self.now c.self.view_is c.self.invariant).0
    (c.block_places.ensures.value
    ∙ ap (λ k. block_places k.state c.args.segment c.args.page) c.self.view_is)
    own inside
