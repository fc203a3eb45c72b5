use Rattle.std.proofs.Common.{ap, length, arith}
use Rattle.hg_service.proofs.caller_locked.CallerLocked.first_fault.Goals as goal

pub returns-in-Some-first_out-clause-fault : goal.returns-in-Some-first_out-clause-fault
returns-in-Some-first_out-clause-fault g c =
    let same = ap (λ policy. length policy.segments) c.args.self.now.serves in
    let all = c.segments.ensures.segments in (
      λ segment lt. c.in_default.ensures.none segment (omega (arith, lt, same, all)),
      c.in-Some-first_out.ensures.some,
    )

pub returns-clause-pooled : goal.returns-clause-pooled
returns-clause-pooled g c =
    let same = ap (λ policy. length policy.segments) c.args.self.now.serves in
    let all = c.segments.ensures.segments in
    λ segment lt. c.in_default.ensures.none segment (omega (arith, lt, same, all))
