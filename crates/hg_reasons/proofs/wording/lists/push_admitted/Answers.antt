use Rattle.std.proofs.Common.{◌++◌, ◌+◌, ◌-◌, ◌<◌, length, ap, sym, ◌∙◌, arith}
use Rattle.std.specs.List.{range_with_len}
use Rattle.hg_reasons.specs.Wording.{admitted_from}
use Rattle.hg_reasons.proofs.Ranges.{range_more}
use Rattle.hg_reasons.proofs.wording.lists.push_admitted.Goals as goal

pub loop-tenant-preserved : goal.loop-tenant-preserved
loop-tenant-preserved c =
    let policy = c.args.policy.now in
    let n = length policy.tenants in
    let t = c.loop-tenant.tenant in
    let count = c.tenants-tenant-end.ensures.tenants in
    let test = c.loop-tenant-test.true in
    let below : t < n = omega arith in
    c.in_ok-first.ensures (range_with_len (t + 1) (n - (t + 1)))
    ∙ ap (λ ts. c.loop-tenant.out.items ++ admitted_from policy c.args.arena c.loop-tenant.first ts) (sym (range_more t n below))
    ∙ c.loop-tenant.invariant
