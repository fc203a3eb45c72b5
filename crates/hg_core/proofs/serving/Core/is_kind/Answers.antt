use Rattle.std.proofs.Common.{ap, ◌∙◌}
use Rattle.hg_place.specs.Places.{number_of}
use Rattle.hg_machine.specs.State.{record_at}
use Rattle.hg_core.specs.Kinds.{is_kind_told}
use Rattle.hg_core.specs.Records.{record_told}
use Rattle.hg_core.proofs.KindsTold.{kind_told}
use Rattle.hg_core.proofs.serving.Core.is_kind.Goals as goal

pub returns : goal.returns
returns c =
    let s = c.args.self.now.state in
    let r = record_at s (number_of c.args.place) in
    c.is_told.ensures
    ∙ ap (is_kind_told c.max_generation-greatest.result c.args.kind) c.record-known.ensures
    ∙ ap (λ g. is_kind_told g c.args.kind (record_told r))
    (c.max_generation-greatest.ensures.max_generation
    ∙ ap (λ p. p.max_generation) c.policy.ensures.value)
    ∙ kind_told s c.args.kind r
