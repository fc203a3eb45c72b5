use Rattle.std.proofs.Common.{ap, ◌∙◌}
use Rattle.hg_page.specs.Shapes.{Shape}
use Rattle.hg_page.proofs.Formatted.{formatting_none, formatting_shown, formatting_lacks, formatting_room, formatting_more, formatting_all}
use Rattle.hg_page.proofs.page.Page.format.Goals as goal

pub offer-requires-clause-apart : goal.offer-requires-clause-apart
offer-requires-clause-apart c = formatting_lacks _ _ _ _ _ _ c.loop-index.invariant c.loop-index-test.true

pub offer-requires-clause-room : goal.offer-requires-clause-room
offer-requires-clause-room c = formatting_room _ _ _ _ _ _ c.loop-index.invariant c.loop-index-test.true

pub loop-index-preserved : goal.loop-index-preserved
loop-index-preserved c = formatting_more _ _ _ _ _ _ _ _ _ c.loop-index.invariant c.loop-index-test.true c.has.ensures c.offer.ensures.linked c.offer.ensures.offered c.offer.ensures.others c.offer.ensures.shape c.offer.ensures.in_use

pub returns-clause-others : goal.returns-clause-others
returns-clause-others c = formatting_all _ _ _ _ _ _ c.loop-index.invariant c.loop-index-test.false

pub loop-index-init : goal.loop-index-init
loop-index-init c = formatting_none c.args.worn.now c.resize.new.self c.args.memory.now c.resize.ensures.linked c.resize.ensures.emptied c.resize.ensures.in_use

pub returns-clause-formatted : goal.returns-clause-formatted
returns-clause-formatted c = formatting_shown _ _ _ _ _ _ _ c.loop-index.invariant c.loop-index-test.false (ap (λ (s : Shape). s.places) c.resize.ensures.shape ∙ c.per_page.ensures.value)
