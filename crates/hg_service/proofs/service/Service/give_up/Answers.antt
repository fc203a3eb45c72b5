use Rattle.std.proofs.Common.{ap, length, arith}
use Rattle.hg_service.proofs.service.Service.give_up.Goals as goal

pub take_segments-requires-clause-all : goal.take_segments-requires-clause-all
take_segments-requires-clause-all g c =
    let same = ap (λ policy. length policy.segments) c.args.self.now.serves in
    let all = c.segments.ensures.segments in
    λ segment lt. c.in_default.ensures.none segment (omega (arith, lt, same, all))
