use Rattle.std.proofs.Common.{sym, ◌∙◌, arith}
use Rattle.hg_policy.proofs.GrantTable.{half-is}
use Rattle.hg_policy_text.proofs.lines.beside.Goals as goal

pub returns-clause-granted : goal.returns-clause-granted
returns-clause-granted c =
    half-is (λ standing. standing.granted) c.loop-actor.standings c.args.granted.now (c.loop-actor.invariant.long ∙ sym c.told-granted)
    (λ j within. c.loop-actor.invariant.granted j (omega (arith, within, c.loop-actor.invariant.long, c.loop-actor-test.false)))

pub returns-clause-forbidden : goal.returns-clause-forbidden
returns-clause-forbidden c =
    half-is (λ standing. standing.forbidden) c.loop-actor.standings c.args.forbidden.now (c.loop-actor.invariant.long ∙ sym c.told-forbidden)
    (λ j within. c.loop-actor.invariant.forbidden j (omega (arith, within, c.loop-actor.invariant.long, c.loop-actor-test.false)))
