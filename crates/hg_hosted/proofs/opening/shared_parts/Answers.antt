use Rattle.std.proofs.lemmas.Option.{none-some}
use Rattle.hg_hosted.proofs.Named.{pooled_by}
use Rattle.hg_hosted.proofs.opening.shared_parts.Goals as goal

pub new-requires-clause-of : goal.new-requires-clause-of
new-requires-clause-of g c =
    let one = c.in-Some.one.now in
    let pool = c.without_name-pool.ensures in
    (one.inner.value, one.named, pooled_by one.named pool.of pool.named)

pub new-requires-2-clause-of : goal.new-requires-2-clause-of
new-requires-2-clause-of g c =
    let one = c.in-Some.one.now in
    (one.inner.value, one.named, λ own is. absurd (none-some _ is))
