use Rattle.std.proofs.Common.{subst, sym}
use Rattle.hg_table.specs.Named.{table_of_worker}
use Rattle.hg_hosted.specs.Shared.{AreOfService}
use Rattle.hg_hosted.proofs.Named.{by_state}
use Rattle.hg_hosted.proofs.opening.hosted_one.Goals as goal

pub returns-in_err-shared-clause-of : goal.returns-in_err-shared-clause-of
returns-in_err-shared-clause-of g c = c.share.ensures.own _ _ c.requires.of

pub made-requires-clause-of : goal.made-requires-clause-of
made-requires-clause-of g c =
    subst (λ o. AreOfService o.value.policy (table_of_worker o.value.seat) c.in_ok-shared.shared)
    (sym c.without_name.ensures)
    (by_state c.args.worker.named (c.in_ok-shared.ensures.other _ _ c.requires.of))

pub returns-clause-of : goal.returns-clause-of
returns-clause-of g c = c.share.ensures.own _ _ c.requires.of
