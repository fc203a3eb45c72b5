use Rattle.std.proofs.Common.{ap, length, arith}
use Rattle.hg_service.proofs.Behind.{delivers_nothing, in_reach}
use Rattle.hg_service.proofs.worker.Worker.deliver.Goals as goal

pub returns-in_default-clause-sent : goal.returns-in_default-clause-sent
returns-in_default-clause-sent g c =
    delivers_nothing c.args.self.now.own.inner.value.hand c.in_default.ensures

pub index-requires : goal.index-requires
index-requires g c =
    let own = c.args.self.now.own.inner.value in
    let below = in_reach own.policy own.hand c.in-Some.place c.in-Some.ensures own.reach in
    let same = ap (λ policy. length policy.segments) c.args.self.now.own.named.serves in
    let all = c.deref.result.now.all in
    let counted = c.deref.result.now.lists.ok.0 in
    let at = c.from.ensures in
    omega (arith, below, same, all, counted, at)

pub returns-clause-sent : goal.returns-clause-sent
returns-clause-sent g c = record {
  old = c.deref_mut-kept.result.now.list;
  new = c.receive.new.self.list;
  delivered = c.receive.ensures.delivered;
}
